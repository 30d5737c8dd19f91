-- Laws of the listed run that belong to no one function.
pub mod Run
pub mod Records
pub mod Reached
pub mod Answers
