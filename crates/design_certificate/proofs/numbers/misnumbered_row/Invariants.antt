use Rattle.std.proofs.Common.{take, ◌≤◌}
use Rattle.std.specs.Prelude.{All}
use Rattle.design_certificate.specs.Live.{HasNumber}
use Rattle.design_certificate.proofs.numbers.misnumbered_row.Given as goal

abbrev pub invariant-loop-i : goal.invariant-loop-i
invariant-loop-i l = All (λ r. (r.depth ≤ l.fn.length) × All (HasNumber l.fn.costs) r.goals) (take l.i l.fn.rows)
