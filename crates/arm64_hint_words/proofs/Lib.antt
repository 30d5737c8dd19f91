-- Laws that belong to no one function, and what the walks share.
pub mod First
pub mod Entries
pub mod Stores
