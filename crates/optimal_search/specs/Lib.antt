pub mod Promise
pub mod Space
pub mod Floors
pub mod Plans
pub mod Rows
pub mod Costs
pub mod Oracles
pub mod Kept
