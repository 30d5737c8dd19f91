-- Laws that belong to no one function.
pub mod Lists
pub mod Own
pub mod Commute
pub mod Runs
pub mod Walk
pub mod Same
pub mod Idle
pub mod Examples
