-- The definitions that the contracts of arm64_hint_check cite.
pub mod Check
