-- Laws that belong to no one function.
pub mod Forms
pub mod Records
pub mod Targets
pub mod Walk
pub mod Fuel
pub mod Append
pub mod Lengths
