mod StepLaws
pub mod SpaceLaws
pub mod ListLemmas
mod RowLaws
pub mod AskLaws
mod KeptLemmas
mod CostLaws
