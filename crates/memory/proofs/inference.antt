-- Laws of the tests.
pub mod Counting
pub mod Following
