use Rattle.std.proofs.Common.{◌≡◌, take, length}
use Rattle.std.specs.Prelude.{not, filter}
use Rattle.grd_base.specs.Bits.{members}
use Rattle.cut_bounds.proofs.goals.lacks_more.Given as goal

-- as many atoms were counted as the state lacks of those so far
abbrev pub invariant-loop-atom : goal.invariant-loop-atom
invariant-loop-atom g l = l.count ≡ length (filter (λ a. not (members l.s a.0)) (take l.atom-index l.atoms))
