use Rattle.std.proofs.Common.{◌<◌}
use Rattle.std.specs.Prelude.{◌↔◌, IsTrue}
use Rattle.grd_base.specs.Bits.{members}
use Rattle.grd_base.specs.declared.ids.GoalId.{GoalId}
use Rattle.plain_search.specs.Live.{EndsAt}
use Rattle.plain_search.proofs.live.ending.Given as goal

abbrev pub invariant-loop-g : goal.invariant-loop-g
invariant-loop-g g l = (goal : GoalId) → IsTrue (members l.here goal.0) ↔ ((goal.0 < l.g) × EndsAt l.task (members l.from) l.depth goal)
