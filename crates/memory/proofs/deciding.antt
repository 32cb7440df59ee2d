-- Laws of how a rule stands.
pub mod Deciding
