use Rattle.std.proofs.Common.{◌≡◌, map, take}
use Rattle.ground_all.specs.Grounding.{object_of}
use Rattle.ground_all.proofs.literals.ground_literal.Given as goal

abbrev pub invariant-loop-term : goal.invariant-loop-term
invariant-loop-term l = l.grounded.items ≡ map (object_of l.objects) (take l.term-index l.literal.terms)
