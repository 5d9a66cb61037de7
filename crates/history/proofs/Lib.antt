pub mod TrackerHolding
pub mod Steps
pub mod FullPairs
pub mod History
pub mod Replays
