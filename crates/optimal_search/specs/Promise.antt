-- The promise: what the clauses of public calls cite of this crate, in the order in which to read it.
-- What is left out serves private contracts alone.

-- The space of a task, a goal and removed actions.
pub use Rattle.optimal_search.specs.Space.{labelled_step, successors_of, holds_in, level_in, PlainSpace}
-- What makes the space a space and its floor a floor.
pub use Rattle.optimal_search.specs.Floors.{bits_same, ShowsBound, AreEnough, ProvesBound, bound_admissible}
-- What `costs` answers for a goal.
pub use Rattle.optimal_search.specs.Costs.{AreFewNear, IsRightCost}
-- What an oracle is asked about, and what it knows.
pub use Rattle.optimal_search.specs.Oracles.{KnownBound, PlainOracle, IsAlike, Knows, KnowsAllOf, bound_of_row}
pub use Rattle.optimal_search.specs.Oracles.{IsSoundOracle, KnowsCost}
