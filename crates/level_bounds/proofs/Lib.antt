pub mod FilingLemmas
pub mod WaveLemmas
pub mod AroundLemmas
pub mod RoundLaws
pub mod FamilyLaws
mod JoinLemmas
