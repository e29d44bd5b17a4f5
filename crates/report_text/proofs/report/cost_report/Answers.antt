use Rattle.std.proofs.Common.{◌++◌, length, codes, arith}
use Rattle.std.specs.Option.{option_map}
use Rattle.std.specs.Fmt.{decimal}
use Rattle.report_text.specs.Reports.{action_names}
use Rattle.report_text.proofs.ReportLemmas.{cost_report_more}
use Rattle.report_text.proofs.report.cost_report.Goals as goal

pub loop-i-preserved : goal.loop-i-preserved
loop-i-preserved c =
    cost_report_more (action_names c.args.world.now.typed) (option_map (λ plan. plan.items)) c.args.answers.now c.loop-i.i c.index-answers-i.result
    (codes "goals " ++ decimal (length c.args.answers.now) ++ codes "\n") _ _
    (omega arith) c.index-answers-i.is c.loop-i.invariant c.in_ok-push_line.ensures
