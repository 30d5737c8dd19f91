-- Laws of the step that belong to no one function.
pub mod Sections
pub mod Steps
pub mod Changes
