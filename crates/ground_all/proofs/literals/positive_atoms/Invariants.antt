use Rattle.std.proofs.Common.{◌≡◌, take}
use Rattle.ground_all.specs.Grounding.{positives}
use Rattle.ground_all.proofs.literals.positive_atoms.Given as goal

abbrev pub invariant-loop-literal : goal.invariant-loop-literal
invariant-loop-literal l = l.atoms.items ≡ positives l.objects (take l.literal-index l.literals)
