pub mod Joining
pub mod Remembering
pub mod Places
pub mod Made
pub mod Restarting
