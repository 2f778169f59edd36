pub mod Numbers
pub mod Buffers
pub mod Sameness
pub mod Successions
