pub mod Lists
pub mod Beginnings
pub mod Totals
mod Ends
pub mod Halves
pub mod SquareFree
pub mod Numbers
mod Stored
mod Steps
mod Tried
mod Found
mod Answers
