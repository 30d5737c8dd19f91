-- Laws.
pub mod Back
pub mod High
pub mod Manual
