pub mod Members
pub mod Walks
pub mod Pours
pub mod Going
pub mod TurningGoes
pub mod Ordering
pub mod TurningOrder
