pub mod Comparing
pub mod Keys
pub mod Laid
pub mod Tokens
pub mod Tables
pub mod Laws
