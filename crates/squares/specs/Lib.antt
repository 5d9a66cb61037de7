-- The definitions of this crate beside those of crate abelian: marks of candidates, and squares as document 003 says.
pub mod Marks
pub mod Squares
