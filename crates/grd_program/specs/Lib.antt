pub mod Promise
pub mod Statuses
pub mod Errors
pub mod Causes
pub mod Runs
