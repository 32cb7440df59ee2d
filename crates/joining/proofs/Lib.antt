pub mod Lists
pub mod Pairing
pub mod Rows
pub mod Acyclic
pub mod Proper
pub mod House
pub mod Joins
