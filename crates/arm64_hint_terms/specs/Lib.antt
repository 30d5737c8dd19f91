-- The definitions that the contracts of arm64_hint_terms cite.
pub mod Rels
pub mod Answer
pub mod Operands
pub mod Plans
pub mod Kinds
