use Rattle.std.proofs.Common.{◌∙◌, arith, length-drop}
use Rattle.grd_io.proofs.Growing.{file_more, still_there}
use Rattle.grd_io.proofs.whole.append_whole.Goals as goal

pub loop-done-preserved : goal.loop-done-preserved
loop-done-preserved g c =
    let taken = rw c.rest_of.ensures at c.in_ok-done.ensures.taken in record {
      within = omega (arith, taken.within, length-drop c.loop-done.done c.args.piece.now);
      there = still_there _ _ _ taken.grown c.loop-done.invariant.there;
      grown = file_more _ _ _ c.args.piece.now c.loop-done.done _ c.loop-done.invariant.grown taken.grown;
      others = λ x ne. c.in_ok-done.ensures.others_stay x ne ∙ c.loop-done.invariant.others x ne;
      quiet = λ x w. c.in_ok-done.ensures.cause.kept x w ∙ c.loop-done.invariant.quiet x w;
    }
