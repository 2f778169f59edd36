pub mod Reading
pub mod Showing
