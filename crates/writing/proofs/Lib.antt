pub mod Answering
pub mod Appending
pub mod Filing
pub mod Numbering
pub mod Picking
