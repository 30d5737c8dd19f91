-- The calls that a linker makes (RULES 2.28, 3.1).
pub mod Lent
pub mod Reader
pub mod ReaderX86
pub mod Fixup
pub mod Stub
pub mod Hints
pub mod Lister
pub mod Payload
pub mod Version
