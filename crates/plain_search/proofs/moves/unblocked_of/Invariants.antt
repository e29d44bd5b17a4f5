use Rattle.std.proofs.Common.{◌≡◌, ◌++◌, drop}
use Rattle.plain_search.specs.Moves.{unblocked_of}
use Rattle.plain_search.proofs.MoveLemmas.{numbers_from}
use Rattle.plain_search.proofs.moves.unblocked_of.Given as goal

abbrev pub invariant-loop-i : goal.invariant-loop-i
invariant-loop-i l = l.numbers.items ++ numbers_from l.i (drop l.i l.action-items) ≡ unblocked_of l.task
