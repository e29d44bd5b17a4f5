use Rattle.std.proofs.Common.{◌≡◌, take}
use Rattle.strips_model.specs.Worlds.{places_of}
use Rattle.type_check.specs.Values.{PlainTyped}
use Rattle.ground_all.specs.Grounding.{is_watched, fluent_atoms}
use Rattle.ground_all.specs.Found.{IsCounted}
use Rattle.ground_all.proofs.complements.watched_atoms.Given as goal

abbrev pub invariant-loop-number : goal.invariant-loop-number
invariant-loop-number l = (t : PlainTyped) → IsCounted t l.watched l.starts l.fluents → l.numbers.items ≡ places_of (λ a. is_watched t a.predicate) 0 (take l.number (fluent_atoms t))
