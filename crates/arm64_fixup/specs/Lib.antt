-- Fix-up of a section (RULES 5), and stub and thunk entries (RULES 6).
pub mod Walk
pub mod Answer
pub mod Footprint
pub mod Stub
