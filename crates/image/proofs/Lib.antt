-- Laws that belong to no one function.
pub mod Local
pub mod Words
pub mod Steps
