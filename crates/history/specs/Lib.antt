pub mod Machine
pub mod Calls
pub mod History
pub mod TrackerHolding
pub mod Replay
pub mod Made
pub mod Replayed
