-- Laws of the check that belong to no one function.
pub mod Checks
pub mod Listed
pub mod Ignored
