use Rattle.std.proofs.Common.{true, false, length, map, sym, ap, ◌∙◌, append-nil, arith}
use Rattle.ground_all.specs.Found.{atom_blocks}
use Rattle.ground_all.proofs.BlockLaws.{atoms_sum}
use Rattle.ground_all.proofs.WatchedLaws.{mark_within, watched_next}
use Rattle.ground_all.proofs.complements.watched_atoms.Goals.{then-watched-predicate+in_ok-push, else-watched-predicate}
use Rattle.ground_all.proofs.complements.watched_atoms.Goals as goal

pub place_in-predicate-requires : goal.place_in-predicate-requires
place_in-predicate-requires c =
    let t = c.requires.0 in
    (map length (atom_blocks t), c.requires.1.start, omega (arith, c.loop-number-test.true, c.requires.1.counted, atoms_sum t))

pub bounds-watched-predicate : goal.bounds-watched-predicate
bounds-watched-predicate c =
    mark_within c.requires.0 c.args.watched.now c.args.starts.now c.args.fluents c.requires.1 c.loop-number.number c.place_in-predicate.result.0 c.place_in-predicate.result.1
    c.loop-number-test.true c.place_in-predicate.ensures

pub loop-number-preserved : goal.loop-number-preserved
loop-number-preserved c = λ t counted.
    let marks = c.args.watched.now in
    let number = c.loop-number.number in
    let k = c.place_in-predicate.result.0 in
    let place = c.place_in-predicate.result.1 in
    elim c.if-watched-predicate.branch [
      | then-watched-predicate+in_ok-push w ↦
          watched_next t marks c.args.starts.now c.args.fluents counted number k place c.loop-number-test.true c.place_in-predicate.ensures true c.loop-number.numbers.items _
          w.if-watched-predicate.true (c.loop-number.invariant t counted) (ap (λ v. v.items) w.numbers-is ∙ w.in_ok-push.ensures.items)
      | else-watched-predicate w ↦
          watched_next t marks c.args.starts.now c.args.fluents counted number k place c.loop-number-test.true c.place_in-predicate.ensures false c.loop-number.numbers.items _
          w.if-watched-predicate.false (c.loop-number.invariant t counted) (ap (λ v. v.items) w.numbers-is ∙ sym (append-nil c.loop-number.numbers.items))
    ]
