-- Laws that belong to no one function.
pub mod Walk
pub mod First
pub mod Whole
pub mod Exact
pub mod Back
pub mod Turns
pub mod Answers
