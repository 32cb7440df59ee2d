pub mod Calling
pub mod Listing
pub mod Roots
pub mod Rows
pub mod Sections
pub mod Smallest
