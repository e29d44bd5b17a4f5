pub mod Walks
pub mod Layers
pub mod Depths
pub mod Live
pub mod Moves
