pub mod Telling
pub mod Buffers
pub mod Filling
pub mod Tables
pub mod Calls
