-- What is proved of every decision.
pub mod Number31
pub mod Cases
pub mod Written
pub mod Hinted
pub mod Entries
pub mod Twice
pub mod Examples
pub mod RustOrder
pub mod AdrFirst
pub mod Unallocated
pub mod Occurs
