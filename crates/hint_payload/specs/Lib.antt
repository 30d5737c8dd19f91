-- Payloads of linker optimization hints (RULES 14).
pub mod Row
pub mod Payload
pub mod Answer
pub mod Hints
pub mod Exact
