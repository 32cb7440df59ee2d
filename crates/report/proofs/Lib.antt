pub mod Decimal
pub mod Puts
pub mod Supporters
pub mod Verdicts
pub mod Lengths
pub mod Running
pub mod Answers
