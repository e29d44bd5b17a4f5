pub mod Promise
pub mod Lines
pub mod Goals
pub mod Reading
pub mod Ground
pub mod SpelledLines
pub mod Observations
pub mod LineReading
