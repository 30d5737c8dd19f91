-- Laws that belong to no one function.
pub mod Choice
pub mod Shift
pub mod Word
pub mod Part
pub mod Diagram
pub mod Flags
pub mod Wrap
pub mod Range
pub mod Extend
pub mod Bytes
pub mod Below
pub mod Cases
pub mod All
pub mod Puts
pub mod Listed
