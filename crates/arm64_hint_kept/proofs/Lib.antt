-- What a run of hints keeps (RULES 9): each decision of a hint rule keeps what a program does, and so does every list of a run's hint steps.
pub mod Decisions
pub mod Folds
pub mod Image
pub mod Step
pub mod HintsKept
pub mod Picked
pub mod PartCalls
pub mod AllParts
pub mod Tests
pub mod Computing
pub mod Examples
pub mod ExampleRuns
pub mod ExampleCalls
pub mod Needed
pub mod Unallocated
pub mod Number31
