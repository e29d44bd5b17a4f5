use Rattle.std.proofs.Common.{◌∙◌, arith, length-drop}
use Rattle.grd_io.proofs.Growing.{grown_more}
use Rattle.grd_io.proofs.whole.write_whole.Goals as goal

pub loop-done-preserved : goal.loop-done-preserved
loop-done-preserved g c =
    let taken = rw c.rest_of.ensures at c.in_ok-done.ensures.taken in record {
      within = omega (arith, taken.within, length-drop c.loop-done.done c.args.piece.now);
      grown = grown_more _ _ _ c.args.piece.now c.loop-done.done _ c.loop-done.invariant.grown taken.grown;
      quiet = c.in_ok-done.ensures.cause.kept ∙ c.loop-done.invariant.quiet;
    }
