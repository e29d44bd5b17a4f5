use Rattle.std.proofs.Common.{◌≡◌, ◌++◌}
use Rattle.ground_all.proofs.ComplementLaws.{complements_to}
use Rattle.ground_all.proofs.complements.add_complements.Given as goal

abbrev pub invariant-loop-atom : goal.invariant-loop-atom
invariant-loop-atom l = l.into.items ≡ l.fn.into.items ++ complements_to l.watched l.fluents l.list l.others l.atom-index
