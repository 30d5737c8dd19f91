-- Laws that belong to no one function.
pub mod Steps
pub mod Tables
pub mod Fields
pub mod Ignored
pub mod Means
pub mod Worked
pub mod Examples
