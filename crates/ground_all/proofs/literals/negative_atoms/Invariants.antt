use Rattle.std.proofs.Common.{◌≡◌, take}
use Rattle.ground_all.specs.Grounding.{negatives}
use Rattle.ground_all.proofs.literals.negative_atoms.Given as goal

abbrev pub invariant-loop-literal : goal.invariant-loop-literal
invariant-loop-literal l = l.atoms.items ≡ negatives l.objects (take l.literal-index l.literals)
