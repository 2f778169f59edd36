pub mod Positions
pub mod Doubling
pub mod Going
pub mod HalfBudget
pub mod Storing
pub mod Counting
