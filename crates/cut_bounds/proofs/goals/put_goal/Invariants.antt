use Rattle.grd_base.specs.Bits.{members}
use Rattle.cut_bounds.proofs.GoalCuts.{AreGoalLists}
use Rattle.cut_bounds.proofs.goals.put_goal.Given as goal

abbrev pub invariant-loop-atom : goal.invariant-loop-atom
invariant-loop-atom g l = AreGoalLists l.task l.level.goal l.level.removed (members l.s) l.atom-index l.lists.lists.items l.lists.used.items
