-- Laws that belong to no one function.
pub mod Record
pub mod RoundTrip
pub mod Stored
pub mod Packed
pub mod Numbered
pub mod Signing
