use Rattle.std.proofs.Common.{◌≡◌, ◌==◌, ◌&&◌, not, ◌||◌, false, take, get_or, EachIndex}
use Rattle.std.specs.List.{list_any}
use Rattle.ground_all.proofs.counts.mark_negative.Given as goal

abbrev pub invariant-loop-literal : goal.invariant-loop-literal
invariant-loop-literal l = EachIndex l.initial.marks (λ q. get_or l.marks q false ≡ (get_or l.initial.marks q false || list_any (λ x. not x.positive && x.predicate == q) (take l.literal-index l.pre)))
