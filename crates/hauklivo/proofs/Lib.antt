-- The law on lent numbers that every call cites.
pub mod Lent
