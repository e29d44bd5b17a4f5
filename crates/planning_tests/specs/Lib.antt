pub mod Floors
pub mod Detour
