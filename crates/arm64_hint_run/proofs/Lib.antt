-- Laws that belong to no one function, and the theorems.
pub mod Loop
pub mod Listing
pub mod Parts
pub mod Answers
pub mod Declines
pub mod Empty
pub mod Ignored
pub mod IgnoredEntries
pub mod Skipped
pub mod Examples
pub mod Lengths
pub mod Addresses
