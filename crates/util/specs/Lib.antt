-- The definitions that every crate shares, each once.
pub mod Choice
pub mod Bits
pub mod Wrap
pub mod Word
pub mod Part
pub mod Diagram
pub mod All
pub mod Puts
