-- The laws of the report: what is refused and what is answered, how many words it has, what its head tells, and what a list call leaves that is lent
-- the places behind the words before.
pub mod Refusals
pub mod Lengths
pub mod Heads
pub mod Lending
pub mod PartByPart
