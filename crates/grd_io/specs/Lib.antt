pub mod Promise
pub mod Bytes
pub mod Causes
pub mod Counts
pub mod Devices
pub mod Faults
