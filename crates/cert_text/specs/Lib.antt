pub mod Promise
pub mod Lines
pub mod Values
pub mod Streams
pub mod Found
pub mod Reading
