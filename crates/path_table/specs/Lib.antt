pub mod Meters
pub mod Paths
pub mod Tables
pub mod Laws
