-- Unsigned LEB128 (RULES 14.2 to 14.4).
pub mod Values
pub mod Shortest
pub mod Spelling
