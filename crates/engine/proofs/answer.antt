-- Laws of answers.
pub mod Numbering
pub mod Buffers
pub mod Sameness
