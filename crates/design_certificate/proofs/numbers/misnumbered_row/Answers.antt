use Rattle.std.proofs.Common.{◌≤◌, sym, ◌∙◌, subst}
use Rattle.std.specs.Prelude.{All}
use Rattle.std.proofs.lemmas.Bool.{false≢true}
use Rattle.std.proofs.lemmas.List.{take_all}
use Rattle.design_certificate.specs.Live.{PlainLiveRow, HasNumber}
use Rattle.design_certificate.proofs.LoopLemmas.{all_next, first_bad}
use Rattle.design_certificate.proofs.numbers.misnumbered_row.Goals as goal

pub returns-then-not-has_numbers-clause-lacks : goal.returns-then-not-has_numbers-clause-lacks
returns-then-not-has_numbers-clause-lacks c =
    let Good : PlainLiveRow → Type 0 = λ r. (r.depth ≤ c.args.length) × All (HasNumber c.args.costs.now) r.goals in
    first_bad Good (λ r. Good r → ⊥) c.args.rows.now c.loop-i.i c.index-rows-i.result c.loop-i-test.true c.index-rows-i.is c.loop-i.invariant
    (λ has. false≢true (sym c.if-not-has_numbers.true ∙ c.has_numbers.ensures.1 has))

pub loop-i-preserved : goal.loop-i-preserved
loop-i-preserved c =
    let Good : PlainLiveRow → Type 0 = λ r. (r.depth ≤ c.args.length) × All (HasNumber c.args.costs.now) r.goals in
    all_next Good c.args.rows.now c.loop-i.i c.index-rows-i.result c.loop-i-test.true c.loop-i.invariant (subst Good c.index-rows-i.is (c.has_numbers.ensures.0 c.if-not-has_numbers.false))

pub returns-clause-has : goal.returns-clause-has
returns-clause-has c =
    let Good : PlainLiveRow → Type 0 = λ r. (r.depth ≤ c.args.length) × All (HasNumber c.args.costs.now) r.goals in
    subst (All Good) (take_all c.loop-i.i c.args.rows.now c.loop-i-test.false) c.loop-i.invariant
