pub mod FileLemmas
pub mod CompleteLemmas
pub mod WorldAnswers
pub mod NearLemmas
