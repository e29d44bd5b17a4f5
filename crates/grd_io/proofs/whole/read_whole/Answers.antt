use Rattle.std.proofs.Common.{◌≡◌, length, ◌∙◌, arith}
use Rattle.grd_io.proofs.Reading.{front_more, front_whole, front_longer}
use Rattle.grd_io.proofs.whole.read_whole.Goals as goal

pub returns-then-n-eq0-clause-whole : goal.returns-then-n-eq0-clause-whole
returns-then-n-eq0-clause-whole g c =
    let place : c.len-from.result ≡ length c.loop-piece.bytes.items = c.len-from.ensures ∙ c.loop-piece.bytes.ok.0 in
    let read = rw (c.loop-piece.invariant.stays c.args.name.now) at c.in_ok-n.ensures.read in
    front_whole _ _ _ _ _ _ place c.loop-piece.invariant.front read (omega arith) (omega (arith, c.if-n-eq0.true))

pub loop-piece-preserved : goal.loop-piece-preserved
loop-piece-preserved g c =
    let place : c.len-from.result ≡ length c.loop-piece.bytes.items = c.len-from.ensures ∙ c.loop-piece.bytes.ok.0 in
    let read = rw (c.loop-piece.invariant.stays c.args.name.now) at c.in_ok-n.ensures.read in
    record {
      front = rw c.in_ok-extend_from_slice.ensures.items (front_more _ _ _ _ _ _ place c.loop-piece.invariant.front read);
      stays = λ x. c.in_ok-n.ensures.files_stay x ∙ c.loop-piece.invariant.stays x;
      quiet = λ x w. c.in_ok-n.ensures.cause.kept x w ∙ c.loop-piece.invariant.quiet x w;
    }

pub returns-clause-longer : goal.returns-clause-longer
returns-clause-longer g c = λ _. front_longer _ _ _ c.loop-piece.invariant.front (omega (arith, c.loop-piece-test.false, c.len.ensures, c.loop-piece.bytes.ok.0))

pub returns-clause-whole : goal.returns-clause-whole
returns-clause-whole g c = tt

pub returns-clause-within : goal.returns-clause-within
returns-clause-within g c = tt
