pub mod Unfounded
pub mod Leaving
pub mod Losing
pub mod Telling
pub mod Ends
