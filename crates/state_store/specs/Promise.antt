-- The promise: what the clauses of public calls cite of this crate, in the order in which to read it.
-- What is left out serves private contracts alone.

-- Lists of states in which each state has its place as its number, from 0.
pub use Rattle.state_store.specs.Store.{AreDistinct, IsNumbered}
