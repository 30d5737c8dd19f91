-- A list of answers: its records, the bytes that a call is lent, and what is counted.
pub mod Head
pub mod Lent
pub mod Replay
pub mod Seen
