use Rattle.std.proofs.Common.{take}
use Rattle.grd_base.specs.Bits.{members}
use Rattle.strips_model.specs.Plans.{set_of}
use Rattle.level_bounds.proofs.JoinLemmas.{IsJoined}
use Rattle.level_bounds.proofs.wave.join_in.Given as goal

abbrev pub invariant-loop-a : goal.invariant-loop-a
invariant-loop-a g l =
    IsJoined (members l.fn.growth.reached) (set_of l.fn.growth.fresh.items) (set_of (take l.a-index l.atoms)) (members l.growth.reached) (set_of l.growth.fresh.items)
