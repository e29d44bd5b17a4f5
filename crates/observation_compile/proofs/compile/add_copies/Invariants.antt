use Rattle.std.proofs.Common.{◌≡◌, ◌++◌, take}
use Rattle.strips_model.specs.Observed.{copies_of}
use Rattle.observation_compile.proofs.compile.add_copies.Given as goal

abbrev pub invariant-loop-k : goal.invariant-loop-k
invariant-loop-k l = l.actions.items ≡ l.fn.actions.items ++ copies_of l.task 0 (take l.k l.observations)
