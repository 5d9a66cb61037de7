-- The laws of this crate: of vectors that differ, of lengths at which the ends agree, of the search from both ends, of what is answered, and
-- what a cover length says of covers.
pub mod Differing
pub mod CoverLengths
pub mod Search
pub mod Answers
pub mod Lemma4
