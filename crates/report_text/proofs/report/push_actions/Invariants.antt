use Rattle.std.proofs.Common.{◌≡◌, ◌++◌, take}
use Rattle.report_text.specs.Reports.{action_names, plan_text}
use Rattle.report_text.proofs.report.push_actions.Given as goal

abbrev pub invariant-loop-a : goal.invariant-loop-a
invariant-loop-a l = l.report.items ≡ l.fn.report.items ++ plan_text (action_names l.world.typed) (take l.a-index l.plan)
