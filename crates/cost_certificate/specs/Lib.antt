pub mod Promise
pub mod Rows
pub mod Tables
pub mod Faults
pub mod Found
pub mod Verdicts
pub mod Seen
