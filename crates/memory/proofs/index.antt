-- Laws of the index: what is written once.
pub mod Growth
pub mod Kinds
pub mod Turns
pub mod Listing
pub mod Fields
pub mod Pairs
pub mod Rivals
pub mod Sorting
pub mod Placing
pub mod Filling
pub mod Starting
