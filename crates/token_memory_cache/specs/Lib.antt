pub mod Orders
pub mod Cache
pub mod Texts
pub mod Lent
pub mod Shelves
pub mod Histories
