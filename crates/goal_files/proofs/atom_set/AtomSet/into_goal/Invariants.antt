use Rattle.std.proofs.Common.{◌≡◌, ◌++◌, map}
use Rattle.goal_files.specs.LineReading.{key_atom}
use Rattle.goal_files.proofs.atom_set.AtomSet.into_goal.Given as goal

abbrev pub invariant-loop-predicate : goal.invariant-loop-predicate
invariant-loop-predicate l = l.fn.self ≡ l.atoms.items ++ map key_atom l.predicate-iterator
