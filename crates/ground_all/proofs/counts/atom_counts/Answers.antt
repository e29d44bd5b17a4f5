use Rattle.std.proofs.Common.{◌≡◌, length, map, take, get_or, rules, sym, ap, ◌∙◌, subst, arith}
use Rattle.std.proofs.lemmas.List.{length_push}
use Rattle.std.proofs.lemmas.Slice.Zip.{zip_turn, zip_end}
use Rattle.type_check.specs.Values.{PlainTyped}
use Rattle.ground_all.specs.Found.{atom_blocks}
use Rattle.ground_all.proofs.BlockCounts.{length-marks, atom_counts_more, atom_counts_all}
use Rattle.ground_all.proofs.counts.atom_counts.Goals as goal

pub loop-predicate-preserved : goal.loop-predicate-preserved
loop-predicate-preserved c =
    let predicates = c.deref.result.now in
    let same = c.deref.ensures.value ∙ ap (λ (t : PlainTyped). t.predicates) c.typed.view_is in
    let turn = zip_turn predicates c.args.fluent.now c.loop-predicate.yielded c.into_iter-predicate-iterator.result c.loop-predicate.predicate-iterator c.next.new.self _ (search rules) (search rules) c.loop-predicate.yielded_by (c.in-Some.predicate, c.in-Some.fluent) c.in-Some.is c.next.ensures.steps in
    let at = length c.loop-predicate.yielded in
    let mark = c.in-Some.fluent.now in
    subst (λ n. c.push.new.self.items ≡ take n (map length (atom_blocks c.args.typed.now))) (sym (length_push c.loop-predicate.yielded (c.in-Some.predicate, c.in-Some.fluent)))
    (atom_counts_more c.args.typed.now predicates same at c.atom_count.result c.in-Some.predicate.now mark c.loop-predicate.counts.items _ turn.0 (turn.2 c.in-Some.predicate.now) (turn.3 mark ∙ ap (λ marks. get_or marks at mark) c.requires.fluent)
    c.loop-predicate.invariant c.in_ok-push.ensures.items c.atom_count.ensures)

pub returns : goal.returns
returns c =
    let predicates = c.deref.result.now in
    let same = c.deref.ensures.value ∙ ap (λ (t : PlainTyped). t.predicates) c.typed.view_is in
    let end = zip_end predicates c.args.fluent.now c.loop-predicate.yielded c.into_iter-predicate-iterator.result c.loop-predicate.predicate-iterator c.next.new.self _ (search rules) (search rules) c.loop-predicate.yielded_by c.in-None.is c.next.ensures.steps in
    atom_counts_all c.args.typed.now predicates same (length c.loop-predicate.yielded) c.loop-predicate.counts.items
    (omega (arith, end, ap length c.requires.fluent, length-marks c.args.typed.now, ap length same)) c.loop-predicate.invariant
