pub mod StepLemmas
pub mod EmbedLemmas
pub mod MoveLemmas
pub mod FilterLemmas
pub mod RisingLists
pub mod AtomLists
pub mod StateListLemmas
pub mod LevelLaws
pub mod CutLaws
pub mod LevelNumbers
pub mod WorldLemmas
pub mod PlanTransfer
mod ListLemmas
mod IndexLemmas
mod Examples
