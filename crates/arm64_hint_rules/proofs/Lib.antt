-- What the eight functions share.
pub mod Rules
