pub mod Promise
pub mod Tuples
pub mod Grounding
pub mod Names
pub mod Sound
pub mod Found
