-- The promise: what the clauses of public calls cite of this crate, in the order in which to read it.
-- What is left out serves private contracts alone.

-- The actions that apply in a state.
pub use Rattle.succ_table.specs.Applicable.{applicable_of}
