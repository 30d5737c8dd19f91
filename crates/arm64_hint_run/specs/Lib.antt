-- The definitions that the contracts of arm64_hint_run cite.
pub mod Run
pub mod Records
