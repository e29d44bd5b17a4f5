use Rattle.std.proofs.Common.{◌≡◌, ◌==◌, ◌&&◌, not, false, length, take, get_or, EachIndex}
use Rattle.std.specs.List.{list_any}
use Rattle.ground_all.proofs.counts.watched_predicates.Given as goal

abbrev pub invariant-loop-schema : goal.invariant-loop-schema
invariant-loop-schema l = record {
  long : length l.marks.items ≡ length l.typed.predicates;
  marked : EachIndex l.marks.items (λ q. get_or l.marks.items q false ≡ list_any (λ s. list_any (λ x. not x.positive && x.predicate == q) s.pre) (take l.schema-index l.typed.schemas));
}
