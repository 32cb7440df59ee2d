-- Laws of visits: what is processed.
pub mod Counts
pub mod Steps
pub mod Walks
pub mod Accepted
pub mod Marks
pub mod Adding
