use Rattle.std.proofs.Common.{◌≡◌, ◌-◌, ◌+◌, List, ℕ, Bool, vec_len}
use Rattle.grd_io.proofs.Reading.{IsFront}
use Rattle.grd_io.proofs.whole.read_whole.Given as goal

abbrev pub invariant-loop-piece : goal.invariant-loop-piece
invariant-loop-piece g l = record {
  front : IsFront (g.F.Shelf.told l.fn.shelf l.name) l.bytes.items;
  stays : (x : List ℕ) → g.F.Shelf.told l.shelf x ≡ g.F.Shelf.told l.fn.shelf x;
  quiet : (x : List ℕ) (w : Bool) → g.F.Shelf.faults l.shelf x w ≡ g.F.Shelf.faults l.fn.shelf x w;
}

abbrev pub decreases-loop-piece : goal.decreases-loop-piece
decreases-loop-piece g l = l.limit + 1 - vec_len l.bytes
