pub mod Promise
pub mod Pieces
pub mod Tokens
pub mod Brackets
pub mod Trees
pub mod Reading
