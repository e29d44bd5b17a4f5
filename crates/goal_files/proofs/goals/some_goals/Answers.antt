use Rattle.std.proofs.Common.{arith}
use Rattle.goal_files.specs.Goals.{SpellsGoal}
use Rattle.goal_files.proofs.LineLaws.{few_spelled}
use Rattle.goal_files.proofs.goals.some_goals.Goals as goal

pub overflow_cast-result : goal.overflow_cast-result
overflow_cast-result c =
    let few = few_spelled (SpellsGoal c.args.typed.now) c.args.text.now c.in_ok-goals.goals.items c.in_ok-goals.ensures.spelled in
    omega arith
