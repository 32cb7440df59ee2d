-- Laws of the uses of literals.
pub mod Users
