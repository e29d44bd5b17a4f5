-- The promise: what the clauses of public calls cite of this crate, in the order in which to read it.
-- What is left out serves private contracts alone.

-- Tuples of objects.
pub use Rattle.ground_all.specs.Tuples.{tuples, numbered}
-- The world of a typed domain and problem.
pub use Rattle.ground_all.specs.Grounding.{is_fluent, is_watched, atoms_of, fluent_atoms, watched_atoms}
pub use Rattle.ground_all.specs.Grounding.{TaskAtom, task_atoms, task_atom_text, names_of_schema, instances}
pub use Rattle.ground_all.specs.Grounding.{object_of, ground_literal, positives, negatives, instance_of}
pub use Rattle.ground_all.specs.Grounding.{is_one_twice, is_true_at_start, actions_of, world_of, ground_world}
pub use Rattle.ground_all.specs.Grounding.{ground_task, PlainGrounded}
-- Texts that tell an item of a list from all others.
pub use Rattle.ground_all.specs.Names.{IsTextAt}
