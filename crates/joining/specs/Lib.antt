pub mod Joining
pub mod Prevailing
