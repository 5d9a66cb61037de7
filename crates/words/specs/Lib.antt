pub mod Prefixes
pub mod Differences
