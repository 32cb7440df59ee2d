pub mod Text
pub mod Sheet
pub mod Printing
pub mod Cases
