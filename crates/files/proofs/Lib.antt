pub mod Lists
pub mod Proper
pub mod Theories
pub mod Saying
pub mod Reading
pub mod Rows
pub mod Accepting
pub mod Only
