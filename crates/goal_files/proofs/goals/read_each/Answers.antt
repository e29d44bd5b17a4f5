use Rattle.std.proofs.Common.{arith}
use Rattle.std.proofs.lemmas.Result.{err_from_is_err_and}
use Rattle.goal_files.specs.Goals.{SpellsGoal}
use Rattle.goal_files.proofs.LineLaws.{spell_more, spell_before}
use Rattle.goal_files.proofs.goals.read_each.Goals as goal

pub loop-line-preserved : goal.loop-line-preserved
loop-line-preserved c =
    spell_more (SpellsGoal c.args.index.now) c.args.lines.now c.loop-line.line-index c.line-item.result (omega arith) c.line-item.is c.loop-line.goals.items c.loop-line.invariant
    c.push.new.self.items c.in_ok-read_goal.field-0 c.in_ok-read_goal.ensures.spelled c.in_ok-push.ensures.items

pub returns-in_err-read_goal-clause-fault : goal.returns-in_err-read_goal-clause-fault
returns-in_err-read_goal-clause-fault c =
    let passed = err_from_is_err_and c.from_residual.result c.from_residual.ensures.1 in
    let before = spell_before (SpellsGoal c.args.index.now) c.args.lines.now c.loop-line.line-index c.line-item.result (omega arith) c.line-item.is c.loop-line.goals.items c.loop-line.invariant in
    rw (passed.1, passed.2) (c.line-item.result, before, c.in_err-read_goal.ensures.fault)

pub returns-in_err-push-clause-fault : goal.returns-in_err-push-clause-fault
returns-in_err-push-clause-fault c =
    let passed = err_from_is_err_and c.from_residual-in_err-push.result c.from_residual-in_err-push.ensures.1 in
    let before = spell_before (SpellsGoal c.args.index.now) c.args.lines.now c.loop-line.line-index c.line-item.result (omega arith) c.line-item.is c.loop-line.goals.items c.loop-line.invariant in
    rw (passed.1, passed.2) (c.line-item.result, before, tt)
