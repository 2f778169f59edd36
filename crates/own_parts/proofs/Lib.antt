pub mod Sets
pub mod Slots
pub mod Serving
pub mod Admitting
