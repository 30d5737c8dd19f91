-- Reading arm64 relocation records.
pub mod Support
pub mod Plain
pub mod Check
pub mod Record
pub mod Read
pub mod Onward
pub mod Fields
pub mod Header
pub mod Said
pub mod Words
