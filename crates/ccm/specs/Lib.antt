pub mod Mode
pub mod Scheme
pub mod Openings
pub mod Masks
pub mod Undoing
