-- The rules of two and of three words.
pub mod Two
pub mod Three
