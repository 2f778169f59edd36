pub mod Words
pub mod Constants
pub mod Block
pub mod Digest
pub mod Hmac
pub mod Laws
