pub mod Promise
pub mod Floors
pub mod Waves
