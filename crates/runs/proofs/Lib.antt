pub mod Rows
pub mod Marks
pub mod Bound
pub mod Chains
pub mod Following
pub mod Halving
