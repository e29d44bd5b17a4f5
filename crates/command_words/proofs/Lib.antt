pub mod WordsTable
pub mod WordsItems
pub mod WordsGiven
pub mod WordsOnce
