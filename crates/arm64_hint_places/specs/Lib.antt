-- The definitions that the contracts of arm64_hint_places cite.
pub mod Hint
