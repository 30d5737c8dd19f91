-- The reader of x86_64 relocation records.
pub mod Support
pub mod Addend
pub mod Record
pub mod Read
pub mod Onward
pub mod Fields
pub mod Worked
pub mod Examples
