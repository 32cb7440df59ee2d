-- The readings: one system, and what is handed over with a run in each.
pub mod Readings
