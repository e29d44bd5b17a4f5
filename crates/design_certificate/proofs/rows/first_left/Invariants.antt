use Rattle.std.proofs.Common.{take}
use Rattle.std.specs.Prelude.{All}
use Rattle.design_certificate.specs.LiveFaults.{IsFollowedOn}
use Rattle.design_certificate.specs.Followers.{live_of}
use Rattle.design_certificate.proofs.rows.first_left.Given as goal

abbrev pub invariant-loop-i : goal.invariant-loop-i
invariant-loop-i g l = All (IsFollowedOn l.fn.moves.task l.fn.followers.costs.now l.fn.moves.removed l.fn.followers.length (live_of l.fn.followers)) (take l.i l.fn.rows)
