-- The laws of this crate: of lists that are made piece by piece, of marks, and of the list of squares.
pub mod Lists
pub mod Candidates
pub mod Squares
