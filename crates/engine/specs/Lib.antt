pub mod Readings
pub mod Answers
pub mod Working
pub mod Tallies
pub mod Lines
