-- The laws of the judge: where the blocks stand in the word, what a walk over blocks and letters has found, the answer in each case, and
-- that the verdict is yes exactly where the pair is an Abelian period.
pub mod Blocks
pub mod Failures
pub mod Answers
pub mod SaysYes
