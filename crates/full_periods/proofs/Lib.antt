-- The laws of this crate: of lists, of tables of marks, of divisors, and of full periods and scaled positions.
pub mod Lists
pub mod Tables
pub mod Divisors
pub mod Multiples
pub mod Blocks
pub mod Stepping
pub mod Alike
pub mod Listing
pub mod Lemma3
pub mod Positions
pub mod Scaling
pub mod TwoBlocks
