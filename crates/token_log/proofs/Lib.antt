pub mod Accounts
pub mod Twice
pub mod Freshness
pub mod Machine
pub mod Starts
pub mod GivenBack
