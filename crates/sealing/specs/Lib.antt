pub mod Sealing
pub mod Bench
pub mod Tokens
pub mod Laws
pub mod Tagged
pub mod Tagging
pub mod Checks
pub mod Openings
