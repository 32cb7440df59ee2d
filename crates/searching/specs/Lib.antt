pub mod Sets
pub mod Leaving
