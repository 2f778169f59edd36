pub mod Writing
pub mod Stepping
pub mod Judging
pub mod Asking
pub mod Onceness
pub mod Welcoming
pub mod Machine
pub mod Sameness
