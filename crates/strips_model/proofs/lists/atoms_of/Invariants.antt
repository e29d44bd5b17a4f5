use Rattle.std.specs.Prelude.{All, ◌<◌}
use Rattle.grd_base.specs.Bits.{members}
use Rattle.strips_model.proofs.ListLemmas.{Told}
use Rattle.strips_model.proofs.lists.atoms_of.Given as goal

abbrev pub invariant-loop-n : goal.invariant-loop-n
invariant-loop-n g l = record { told : Told (members l.s) l.n l.atoms.items; below : All (λ a. a.0 < l.count) l.atoms.items }
