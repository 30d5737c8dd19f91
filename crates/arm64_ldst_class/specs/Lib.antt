-- What the contracts and laws cite.
pub mod Entry
pub mod Row
pub mod Rust
