mod CompileLemmas
pub mod ObservedLaws
