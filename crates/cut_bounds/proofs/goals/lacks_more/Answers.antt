use Rattle.std.proofs.Common.{arith}
use Rattle.grd_base.specs.Bits.{members}
use Rattle.cut_bounds.proofs.GoalCuts.{lacked_few}
use Rattle.cut_bounds.proofs.goals.lacks_more.Goals as goal

-- no more atoms are lacked than were looked at
pub overflow_add-count : goal.overflow_add-count
overflow_add-count g c =
    let few = lacked_few (members c.args.s.now) c.loop-atom.atom-index c.atoms_of_goal-atoms.result.now in
    omega (arith, few, c.loop-atom.invariant, c.loop-atom-test.true, c.loop-atom.auto.atom-index-end)
