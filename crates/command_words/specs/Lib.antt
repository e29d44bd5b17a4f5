pub mod Promise
pub mod Commands
pub mod Words
