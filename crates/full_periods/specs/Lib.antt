-- The definitions of this crate's contracts beside those of crate abelian: tables of marks, and divisors.
pub mod Marks
pub mod Divisors
pub mod Paths
