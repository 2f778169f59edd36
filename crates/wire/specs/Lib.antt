pub mod Numbers
pub mod Fields
pub mod Content
pub mod Laws
pub mod Ids
pub mod Text
pub mod Sameness
