pub mod Roots
pub mod Schedules
pub mod Absorbing
pub mod Padding
pub mod Keys
pub mod Chunks
