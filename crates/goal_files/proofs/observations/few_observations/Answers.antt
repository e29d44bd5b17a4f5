use Rattle.std.proofs.Common.{arith}
use Rattle.goal_files.specs.Observations.{SpellsAction}
use Rattle.goal_files.proofs.LineLaws.{few_spelled}
use Rattle.goal_files.proofs.observations.few_observations.Goals as goal

pub overflow_cast-result : goal.overflow_cast-result
overflow_cast-result c =
    let few = few_spelled (SpellsAction c.args.typed.now) c.args.text.now c.in_ok-observations.observations.items c.in_ok-observations.ensures.spelled in
    omega arith
