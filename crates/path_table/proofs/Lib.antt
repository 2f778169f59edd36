pub mod Ledger
pub mod Standing
