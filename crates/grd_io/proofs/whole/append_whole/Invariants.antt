use Rattle.std.proofs.Common.{◌≡◌, ◌-◌, ◌≤◌, List, ℕ, Bool, take, length}
use Rattle.grd_io.specs.Bytes.{IsThere, OthersStay, grown_file}
use Rattle.grd_io.proofs.whole.append_whole.Given as goal

abbrev pub invariant-loop-done : goal.invariant-loop-done
invariant-loop-done g l = record {
  within : l.done ≤ length l.piece;
  there : IsThere (g.F.Shelf.told l.shelf l.name);
  grown : g.F.Shelf.told l.shelf l.name ≡ grown_file (g.F.Shelf.told l.fn.shelf l.name) (take l.done l.piece);
  others : OthersStay (g.F.Shelf.told l.fn.shelf) (g.F.Shelf.told l.shelf) l.name;
  quiet : (x : List ℕ) (w : Bool) → g.F.Shelf.faults l.shelf x w ≡ g.F.Shelf.faults l.fn.shelf x w;
}

abbrev pub decreases-loop-done : goal.decreases-loop-done
decreases-loop-done g l = length l.piece - l.done
