use Rattle.std.proofs.Common.{take}
use Rattle.std.specs.Prelude.{All}
use Rattle.grd_base.specs.Bits.{members}
use Rattle.design_certificate.specs.Live.{IsFollowed}
use Rattle.design_certificate.specs.Followers.{live_of}
use Rattle.design_certificate.proofs.FollowLemmas.{HasStep}
use Rattle.design_certificate.proofs.rows.is_followed_on.Given as goal

abbrev pub invariant-loop-a : goal.invariant-loop-a
invariant-loop-a g l =
    All (HasStep l.moves.task l.moves.removed (IsFollowed l.followers.costs.now l.followers.length (live_of l.followers) l.row) (members l.s)) (take l.a-index l.allowed)
