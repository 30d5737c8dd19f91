-- The rules of a GOT load.
pub mod Got
