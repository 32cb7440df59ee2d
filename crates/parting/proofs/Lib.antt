pub mod Numbering
pub mod Proper
pub mod Corresponding
pub mod Parted
