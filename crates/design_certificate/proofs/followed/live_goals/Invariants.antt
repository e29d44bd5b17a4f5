use Rattle.grd_base.specs.Bits.{members}
use Rattle.design_certificate.specs.Live.{StaysLive}
use Rattle.design_certificate.proofs.FollowLemmas.{ArePassed}
use Rattle.design_certificate.proofs.followed.live_goals.Given as goal

abbrev pub invariant-loop-goal : goal.invariant-loop-goal
invariant-loop-goal g l = ArePassed (StaysLive l.fn.costs l.fn.tables l.fn.row (members l.fn.s)) l.fn.row.goals l.goal-index l.goals.items
