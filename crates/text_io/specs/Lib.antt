-- The definitions that the contracts of text_io cite.
pub mod Row
