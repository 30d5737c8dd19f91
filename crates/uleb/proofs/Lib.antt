-- Laws that belong to no one function.
pub mod Spelled
pub mod Short
pub mod Reading
pub mod Upward
pub mod Placed
pub mod Writing
