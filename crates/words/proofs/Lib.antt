-- The laws of this crate's contracts, for its proofs and those of the crates above: of refusals, of lists that are written, of vectors at a place, of zeros behind them, of prefix counts, and of one count more.
pub mod Refusals
pub mod Lists
pub mod Listings
pub mod Vectors
pub mod Pairwise
pub mod Padded
pub mod Prefixes
pub mod OneMore
pub mod Equal
pub mod Outside
pub mod Filled
