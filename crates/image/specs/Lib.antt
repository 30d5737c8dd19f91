-- Words at places of an image, the bytes that they share, and steps that read and write there.
pub mod Words
pub mod Local
pub mod Steps
