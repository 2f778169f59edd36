pub mod Joining
pub mod Tokening
pub mod Sayings
