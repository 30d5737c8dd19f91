-- The A64 instructions in scope, and what the code's contracts cite.
pub mod Encoding
pub mod LoadStoreTable
pub mod Page
pub mod Manual
pub mod ManualTargets
pub mod Reach
pub mod Adrp
pub mod Add
pub mod LoadStore
pub mod LoadStoreSplit
pub mod Links
pub mod Literal
pub mod Branch
pub mod Stub
pub mod Fix
pub mod ManualAssembled
pub mod ManualLines
