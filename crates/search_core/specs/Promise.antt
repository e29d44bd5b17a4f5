-- The promise: what the clauses of public calls cite of this crate, in the order in which to read it.
-- What is left out serves private contracts alone.

-- Paths in a space, done states, levels, and bounds on the steps to a done state.
pub use Rattle.search_core.specs.Spaces.{Successors, IsWalk, end_of, actions_of, states_on, IsPath}
pub use Rattle.search_core.specs.Spaces.{IsReachable, IsDoneWithin, IsAtLeast, IsAbove, IsAtLeastLevel}
pub use Rattle.search_core.specs.Spaces.{IsAtMostSteps, IsAdmissible, Counts}
-- Rows that refute a done state.
pub use Rattle.search_core.specs.Tables.{HasRow, HasNeverRow, IsRefutedBySteps, IsRefutedByMark, IsRefuted}
pub use Rattle.search_core.specs.Tables.{AreRefuted, with_unmarked, unmarked, AreCounted}
-- What the answers of `within` say.
pub use Rattle.search_core.specs.Answers.{IsDonePath, IsTrueAnswer, rows_of, HasStartRow, IsBeyond}
pub use Rattle.search_core.specs.Answers.{HasReason}
-- What the answers of `least` say, and which states count for it.
pub use Rattle.search_core.specs.LeastAnswers.{CountsForLeast, IsLeastPath, IsLeastAnswer, least_rows, HasLeastRow}
