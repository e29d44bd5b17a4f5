-- The promise: what the clauses of public calls cite of this crate, in the order in which to read it.
-- What is left out serves private contracts alone.

-- Lists of actions that show a bound.
pub use Rattle.cut_bounds.specs.CutMarks.{reached_around, ShareNone, AreAsMany, IsCutMark}
pub use Rattle.cut_bounds.specs.CutMarks.{sets_around, IsEnough, IsAtLeastLevel, IsAtLeast}
pub use Rattle.cut_bounds.specs.CutMarks.{goal_atoms, lacking, AddsOneAtMost, all_but, listed_cut}
pub use Rattle.cut_bounds.specs.CutMarks.{IsEntering, IsClosedUnder, IsZone}
-- Floors of cuts.
pub use Rattle.cut_bounds.specs.CutFloors.{PlainCutFloor, adds, AreAdders, IsCutFloorOf}
