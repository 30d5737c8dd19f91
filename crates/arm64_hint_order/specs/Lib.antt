-- The order of work of a hint run.
pub mod Lists
pub mod Rising
pub mod Runs
pub mod Cursor
pub mod Walk
