pub mod Tokens
pub mod Memory
pub mod Resets
pub mod Examples
