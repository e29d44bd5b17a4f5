use Rattle.std.proofs.Common.{◌≡◌, [], ◌∷◌, ◌++◌, cond, length, map, take, rules, sym, ap, ◌∙◌, subst, arith}
use Rattle.std.proofs.lemmas.List.{length_push}
use Rattle.std.proofs.lemmas.Slice.Zip.{zip_turn, zip_end}
use Rattle.ground_all.specs.Found.{watched_blocks}
use Rattle.ground_all.proofs.WatchedLaws.{complement_counts_more, complement_counts_all, long_counts, length-watched_marks}
use Rattle.ground_all.proofs.counts.complement_counts.Goals.{then-watched, else-watched}
use Rattle.ground_all.proofs.counts.complement_counts.Goals as goal

pub loop-count-preserved : goal.loop-count-preserved
loop-count-preserved c =
    let t = c.args.typed.now in
    let counts = c.args.atoms.now in
    let marks = c.args.watched.now in
    let turn = zip_turn counts marks c.loop-count.yielded c.into_iter-count-iterator.result c.loop-count.count-iterator c.next.new.self _ (search rules) (search rules) c.loop-count.yielded_by (c.in-Some.count, c.in-Some.watched) c.in-Some.is c.next.ensures.steps in
    let at = length c.loop-count.yielded in
    let count = c.in-Some.count.now in
    let mark = c.in-Some.watched.now in
    let value : c.if-watched.push ≡ cond mark count 0 = elim c.if-watched.branch [
      | then-watched w ↦ w.push-is ∙ ap (λ b. cond b count 0) (sym w.if-watched.true)
      | else-watched w ↦ w.push-is ∙ ap (λ b. cond b count 0) (sym w.if-watched.false)
    ] in
    subst (λ n. c.push.new.self.items ≡ take n (map length (watched_blocks t))) (sym (length_push c.loop-count.yielded (c.in-Some.count, c.in-Some.watched)))
    (complement_counts_more t counts marks c.requires.atoms c.requires.watched at count mark c.loop-count.counts.items _ turn.0 (turn.2 count) (turn.3 mark)
    c.loop-count.invariant (c.in_ok-push.ensures.items ∙ ap (λ n. c.loop-count.counts.items ++ n ∷ []) value))

pub returns : goal.returns
returns c =
    let t = c.args.typed.now in
    let counts = c.args.atoms.now in
    let marks = c.args.watched.now in
    let end = zip_end counts marks c.loop-count.yielded c.into_iter-count-iterator.result c.loop-count.count-iterator c.next.new.self _ (search rules) (search rules) c.loop-count.yielded_by c.in-None.is c.next.ensures.steps in
    complement_counts_all t counts marks c.requires.atoms c.requires.watched (length c.loop-count.yielded) c.loop-count.counts.items
    (omega (arith, end, ap length c.requires.watched, length-watched_marks t, long_counts t counts marks c.requires.atoms c.requires.watched (length c.loop-count.yielded))) c.loop-count.invariant
