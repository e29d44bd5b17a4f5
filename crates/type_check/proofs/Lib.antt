pub mod Passed
pub mod Known
mod OneTyped
mod ObjectPlaces
pub mod Pairs
pub mod Counts
mod ChainLaws
mod NameLaws
mod NameIndex
mod FirstFaults
pub mod NameLists
mod TermLaws
mod LiteralLaws
mod Equalities
mod ParentLaws
mod TypeLaws
mod MarkLaws
mod TypeRows
mod CountLaws
mod FitLaws
mod KnownTypes
mod ActionLaws
mod EntryLaws
mod ProblemLaws
mod DomainLaws
pub mod TypedTasks
pub mod TypedNames
