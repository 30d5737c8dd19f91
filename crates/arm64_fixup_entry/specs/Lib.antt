-- One entry of a fix-up (RULES 5).
pub mod Target
pub mod Check
pub mod Change
pub mod Roles
pub mod Seen
