pub mod Numbering
pub mod Marking
pub mod Bodies
pub mod Answering
