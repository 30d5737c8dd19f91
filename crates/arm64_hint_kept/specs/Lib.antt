-- The statement of RULES 9, and what its examples are made of.
pub mod HintsKept
pub mod Decided
pub mod Folded
pub mod PartCalls
pub mod Tests
pub mod Examples
pub mod ExampleRuns
pub mod Needed
pub mod Unallocated
pub mod Number31
