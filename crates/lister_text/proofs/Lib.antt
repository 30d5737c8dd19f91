-- Laws that belong to no one function.
pub mod Classes
pub mod Lines
pub mod Printed
pub mod Answers
