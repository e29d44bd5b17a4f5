use Rattle.std.proofs.Common.{◌≡◌, ◌++◌, drop}
use Rattle.strips_model.specs.Moves.{allowed_of}
use Rattle.strips_model.proofs.MoveLemmas.{numbers_from}
use Rattle.strips_model.proofs.moves.gather.Given as goal

abbrev pub invariant-loop-i : goal.invariant-loop-i
invariant-loop-i l = l.numbers.items ++ numbers_from l.removed l.i (drop l.i l.action-items) ≡ allowed_of l.task l.removed
