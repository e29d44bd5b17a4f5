use Rattle.std.proofs.Common.{take}
use Rattle.type_check.specs.Values.{is_same_atom}
use Rattle.ground_all.specs.Grounding.{fluent_atoms}
use Rattle.ground_all.proofs.AtomNumbers.{Numbered}
use Rattle.ground_all.proofs.literals.numbers_of.Given as goal

abbrev pub invariant-loop-atom : goal.invariant-loop-atom
invariant-loop-atom l = Numbered is_same_atom (fluent_atoms l.atoms) (take l.atom-index l.list) l.numbers.items
