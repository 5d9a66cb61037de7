-- The laws of this crate: by how much one vector's counts exceed another's, a window and the letters that join and leave it, what is written, a window that slides, and the answers of the calls.
pub mod Excess
pub mod Windows
pub mod Places
pub mod Slides
pub mod Answers
