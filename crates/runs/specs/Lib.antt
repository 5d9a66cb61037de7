-- The definitions of this crate beside those of crate abelian: the test of a start, the words of one block length, how many places they can take, and
-- stretches beside a place.
pub mod Rows
pub mod Places
pub mod Hands
