pub mod PairCount
pub mod OnceEnded
pub mod Kernel
pub mod Rows
pub mod EndedLengths
pub mod OneLetter
