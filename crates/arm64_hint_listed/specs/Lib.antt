-- The definitions that the contracts and the theorems of arm64_hint_listed cite.
pub mod Listed
pub mod Totals
pub mod Rows
