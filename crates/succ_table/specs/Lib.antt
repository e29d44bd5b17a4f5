pub mod Promise
pub mod Applicable
pub mod Filed
