-- The laws of this crate: numbers in decimal, what is written and what is read piece by piece, that the lines of a report's words are document 01's, how long
-- they are, that the first bytes of a long input decide, and document 01's example.
pub mod Decimals
pub mod Writing
pub mod Reading
pub mod Decoding
pub mod Lengths
pub mod Printing
pub mod Inputs
pub mod Example
