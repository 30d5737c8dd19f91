-- The definitions that the contracts of arm64_hint_rules cite.
pub mod Rule
