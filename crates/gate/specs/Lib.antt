pub mod Calls
pub mod Successions
pub mod Laws
pub mod Machine
