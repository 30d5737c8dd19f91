-- Laws that belong to no one function.
pub mod Sound
pub mod Shapes
pub mod Width
pub mod ByType
pub mod Seen
