pub mod Editions
pub mod Format
pub mod Refusals
pub mod Bodies
pub mod Pairs
pub mod Release
pub mod Keys
pub mod Tables
