pub mod Promise
pub mod CutMarks
pub mod CutFloors
pub mod Zones
pub mod Costs
pub mod Around
