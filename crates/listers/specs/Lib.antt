pub mod OpenListing
pub mod Lowest
pub mod Passing
pub mod PeriodsLeft
