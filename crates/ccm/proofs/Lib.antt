pub mod Leaving
pub mod Chaining
