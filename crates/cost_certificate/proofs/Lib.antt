mod ReachLemmas
mod TableLemmas
pub mod PlaceLemmas
mod OneFault
mod CutLemmas
mod FamilyLemmas
pub mod EntryLemmas
pub mod OrderLemmas
mod BoundLemmas
