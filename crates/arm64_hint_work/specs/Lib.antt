-- The definitions that the contracts of arm64_hint_work cite.
pub mod Step
pub mod Acted
