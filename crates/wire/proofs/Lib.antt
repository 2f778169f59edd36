pub mod Numbers
pub mod Reading
pub mod Writing
pub mod Faithful
pub mod Contents
pub mod Ids
pub mod Equals
