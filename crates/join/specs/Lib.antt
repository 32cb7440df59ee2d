pub mod Calls
pub mod Heads
pub mod Written
