use Rattle.std.proofs.Common.{◌≡◌, ◌+◌, ◌++◌, drop, sum}
use Rattle.ground_all.specs.Found.{starts_of}
use Rattle.ground_all.proofs.starts.starts.Given as goal

abbrev pub invariant-loop-length : goal.invariant-loop-length
invariant-loop-length l = record {
  within : l.start + sum (drop l.length-index l.lengths) ≡ sum l.lengths;
  so_far : starts_of 0 l.lengths ≡ l.starts.items ++ starts_of l.start (drop l.length-index l.lengths);
}
