use Rattle.std.proofs.Common.{◌≡◌, ℕ, ◌<◌, length}
use Rattle.std.specs.Prelude.{◌↔◌}
use Rattle.type_check.specs.Chains.{MeetsMark}
use Rattle.type_check.proofs.chains.mark_up.Given as goal

abbrev pub invariant-loop : goal.invariant-loop
invariant-loop l =
    (l.at < length l.parents)
    × (length l.marks ≡ length l.parents)
    × MeetsMark l.parents l.marks l.at
    × ((j : ℕ) → MeetsMark l.parents l.marks j ↔ MeetsMark l.parents l.fn.marks j)
