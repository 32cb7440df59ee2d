pub mod Layout
pub mod Fields
pub mod Memory
pub mod Deciding
pub mod Api
pub mod Indexing
pub mod Visits
pub mod Founding
