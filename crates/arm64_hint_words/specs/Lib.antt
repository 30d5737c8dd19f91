-- The definitions that the contracts of arm64_hint_words cite.
pub mod Place
pub mod Entry
pub mod Held
