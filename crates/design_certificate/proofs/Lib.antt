mod SequenceLemmas
pub mod ListLemmas
pub mod RowLemmas
pub mod CostLemmas
mod TreeLemmas
mod LiveLemmas
mod GivenLemmas
mod LoopLemmas
mod FollowLemmas
mod IndexLemmas
mod BestLemmas
pub mod SetLemmas
mod ShownLemmas
mod PartLemmas
mod ChoiceLemmas
mod SameLemmas
mod LeafLemmas
mod ChildLemmas
mod FaultLemmas
mod ExactLemmas
mod LiveOnce
