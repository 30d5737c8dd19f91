-- The definitions that the theorems and the contracts of the rules at work cite.
pub mod Decide
pub mod RustOrder
pub mod Written
