-- Laws of the cost.
pub mod Costing
