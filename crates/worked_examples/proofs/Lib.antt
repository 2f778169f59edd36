mod Run
mod Sizes
pub mod Holding
