pub mod Log
pub mod Successions
pub mod Generations
pub mod Laws
pub mod Budgets
pub mod Machine
pub mod LogLaws
