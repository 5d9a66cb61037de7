pub mod Search
pub mod SquareFree
