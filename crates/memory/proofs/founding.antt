-- Laws of what a search asks.
pub mod Asking
