pub mod Assembling
pub mod Calling
pub mod Chaining
pub mod Counting
pub mod Heading
pub mod Rowing
