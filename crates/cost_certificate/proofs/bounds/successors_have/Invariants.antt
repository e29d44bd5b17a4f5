use Rattle.std.proofs.Common.{List, take}
use Rattle.std.specs.Prelude.{All}
use Rattle.grd_base.specs.Bits.{members}
use Rattle.cost_certificate.specs.Rows.{PlainRow}
use Rattle.cost_certificate.specs.Seen.{AreBest}
use Rattle.cost_certificate.proofs.BoundLemmas.{HasNext}
use Rattle.cost_certificate.proofs.bounds.successors_have.Given as goal

-- the steps by the actions so far lead to states with rows
abbrev pub invariant-loop-a : goal.invariant-loop-a
invariant-loop-a g l =
    (rows : List PlainRow) → AreBest rows l.bounds.entries → All (HasNext l.moves.task l.moves.removed rows (members l.s) l.need) (take l.a-index l.allowed)
