pub mod Cuts
pub mod Chains
pub mod FaultLemmas
pub mod Marks
pub mod Evens
pub mod Steps
pub mod Depths
