use Rattle.std.proofs.Common.{◌≡◌, ◌++◌, length, map, codes, take}
use Rattle.std.specs.Option.{option_map}
use Rattle.std.specs.Fmt.{decimal}
use Rattle.report_text.specs.Reports.{action_names, cost_lines}
use Rattle.report_text.proofs.report.cost_report.Given as goal

abbrev pub invariant-loop-i : goal.invariant-loop-i
invariant-loop-i l = l.report.items ≡ (codes "goals " ++ decimal (length l.answers) ++ codes "\n") ++ cost_lines (action_names l.world.typed) 1 (take l.i (map (option_map (λ plan. plan.items)) l.answers))
