-- Relocation records, entries, resolved targets, reports, hints and rule records: their bytes and their values.
pub mod Types
pub mod Record
pub mod MachRel
pub mod Reloc
pub mod Authenticated
pub mod Resolved
pub mod Report
pub mod Hint
pub mod RuleRecord
pub mod Refusal
