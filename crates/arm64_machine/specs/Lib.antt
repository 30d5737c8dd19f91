-- The machine (RULES 9.1 to 9.8), when two lists of words run alike (RULES 9.11), and the premises (RULES 9.12 to 9.20).
pub mod Machine
pub mod SameRun
pub mod Premises
pub mod Tests
pub mod Examples
