use Rattle.std.proofs.Common.{◌≡◌, true, false, leb, sym, rules, subst}
use Rattle.std.specs.List.Sorted.{IsNonDecreasing, IsPartitionPoint}
use Rattle.std.proofs.lemmas.List.Sorted.{IsPartitionPoint-from_clause, IsPartitionedBy-leb}
use Rattle.ground_all.proofs.BlockStarts.{starts_rise, some_start, start_within, start_before, place_found}
use Rattle.ground_all.proofs.starts.place_in.Goals as goal
use Rattle.ground_all.proofs.starts.place_in.Goals.{After-partition_point-list}

point : (c : After-partition_point-list) → IsPartitionPoint (λ start. leb start c.args.number ≡ true) (λ start. leb start c.args.number ≡ false) c.args.starts.now c.partition_point-list.result
point c =
    let rise : IsNonDecreasing c.args.starts.now = subst IsNonDecreasing (sym c.requires.1) (starts_rise c.requires.0) in
    IsPartitionPoint-from_clause (λ start. leb start c.args.number) c.args.starts.now c.partition_point-list.result c.partition_point-list.ensures.partitioned (IsPartitionedBy-leb (λ start. start) c.args.starts.now c.args.number rise) (λ a r q k. search rules)

pub overflow_sub-list : goal.overflow_sub-list
overflow_sub-list c = some_start c.requires.0 c.args.starts.now c.args.number c.partition_point-list.result c.requires.1 c.requires.2 c.partition_point-list.ensures.bound (point c)

pub bounds-starts-list : goal.bounds-starts-list
bounds-starts-list c = start_within c.requires.0 c.args.starts.now c.args.number c.partition_point-list.result c.requires.1 c.requires.2 c.partition_point-list.ensures.bound (point (goal.at.bounds-starts-list c).After-partition_point-list)

pub overflow_sub-result : goal.overflow_sub-result
overflow_sub-result c = start_before c.requires.0 c.args.starts.now c.args.number c.partition_point-list.result c.requires.1 c.requires.2 c.partition_point-list.ensures.bound (point (goal.at.overflow_sub-result c).After-partition_point-list)

pub returns : goal.returns
returns c lengths are less = place_found lengths c.args.starts.now c.args.number c.partition_point-list.result are less c.partition_point-list.ensures.bound (point (goal.at.returns c).After-partition_point-list)
