use Rattle.std.proofs.Common.{◌≡◌, take, get_or}
use Rattle.std.specs.Prelude.{All}
use Rattle.design_certificate.proofs.followed.are_two.Given as goal

abbrev pub invariant-loop-goal : goal.invariant-loop-goal
invariant-loop-goal l = All (λ g. g ≡ get_or l.fn.goals 0 (record { 0 = 0 })) (take l.goal-index l.fn.goals)
