pub mod Views
pub mod index
