pub mod Answers
pub mod Calls
pub mod Chains
pub mod Kept
