-- The promise: what the clauses of public calls cite of this crate, in the order in which to read it.
-- What is left out serves private contracts alone.

-- Bounds from levels, and the families that show them.
pub use Rattle.level_bounds.specs.Floors.{PlainFloor, IsFloorOf, level_of, MeetsBound, ShowsLevel}
-- How the rounds of a level are made.
pub use Rattle.level_bounds.specs.Waves.{is_usable, AreFiled, AreReady}
