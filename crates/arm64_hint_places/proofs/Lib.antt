-- Laws of a hint's places that belong to no one function.
pub mod Places
pub mod Held
pub mod Alike
