pub mod Changing
pub mod Counting
pub mod Growing
pub mod Reading
pub mod Telling
