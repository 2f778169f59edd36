pub mod Field
pub mod Words
pub mod Cipher
pub mod Keys
pub mod Laws
pub mod Examples
