use Rattle.std.proofs.Common.{take, sym, ◌∙◌, subst}
use Rattle.std.specs.Prelude.{All}
use Rattle.std.proofs.lemmas.Bool.{false≢true}
use Rattle.std.proofs.lemmas.List.{take_all}
use Rattle.std.proofs.lemmas.List.Elements.{All-nil, All-push}
use Rattle.cost_certificate.specs.Rows.{PlainRow}
use Rattle.grd_base.proofs.ListLemmas.{take_next}
use Rattle.cost_certificate.proofs.BoundLemmas.{HasNeeds}
use Rattle.cost_certificate.proofs.FamilyLemmas.{first_bad}
use Rattle.cost_certificate.proofs.bounds.unsupported_row.Goals as goal

pub loop-i-init : goal.loop-i-init
loop-i-init g c = All-nil (HasNeeds c.args.moves.now.task c.args.moves.now.removed c.args.rows.now)

pub returns-then-not-is_supported-clause-lacks : goal.returns-then-not-is_supported-clause-lacks
returns-then-not-is_supported-clause-lacks g c =
    let Has : PlainRow → Type 0 = HasNeeds c.args.moves.now.task c.args.moves.now.removed c.args.rows.now in
    first_bad Has (λ r. Has r → ⊥) c.args.rows.now c.loop-i.i c.index-rows-i.result c.loop-i-test.true c.index-rows-i.is c.loop-i.invariant
    (λ has. false≢true (sym c.if-not-is_supported.true ∙ (c.is_supported.ensures c.args.rows.now c.requires.best).1 has))

pub loop-i-preserved : goal.loop-i-preserved
loop-i-preserved g c =
    let Has : PlainRow → Type 0 = HasNeeds c.args.moves.now.task c.args.moves.now.removed c.args.rows.now in
    subst (All Has) (sym (take_next c.args.rows.now c.loop-i.i c.index-rows-i.result c.loop-i-test.true c.index-rows-i.is))
    (All-push Has (take c.loop-i.i c.args.rows.now) c.index-rows-i.result c.loop-i.invariant ((c.is_supported.ensures c.args.rows.now c.requires.best).0 c.if-not-is_supported.false))

pub returns-clause-has : goal.returns-clause-has
returns-clause-has g c =
    let Has : PlainRow → Type 0 = HasNeeds c.args.moves.now.task c.args.moves.now.removed c.args.rows.now in
    subst (All Has) (take_all c.loop-i.i c.args.rows.now c.loop-i-test.false) c.loop-i.invariant
