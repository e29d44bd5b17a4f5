use Rattle.std.proofs.Common.{◌≡◌, ◌∙◌, sym}
use Rattle.std.proofs.lemmas.Bool.{false≢true}
use Rattle.grd_base.specs.declared.limits.Bound.TheVariants.{Steps}
use Rattle.grd_base.specs.Bits.{members}
use Rattle.cost_certificate.specs.Tables.{HasRow}
use Rattle.design_certificate.specs.Live.{GoalTable}
use Rattle.design_certificate.proofs.LoopLemmas.{all_next, all_found, all_lack}
use Rattle.std.proofs.Common.{subst}
use Rattle.design_certificate.proofs.followed.is_open.Goals as goal

pub returns-then-not-is_open_in : goal.returns-then-not-is_open_in
returns-then-not-is_open_in g c =
    let Open : GoalTable → Type 0 = λ x. x.0 ≡ c.args.goal → HasRow x.1 (members c.args.s.now) (Steps c.args.left) → ⊥ in
    all_lack Open c.args.tables.now c.loop-table.table-index c.table-item.result c.loop-table-test.true
    (λ is. false≢true (sym c.if-not-is_open_in.true ∙ c.is_open_in.ensures.1 (subst Open (sym c.table-item.is) is)))

pub loop-table-preserved : goal.loop-table-preserved
loop-table-preserved g c =
    let Open : GoalTable → Type 0 = λ x. x.0 ≡ c.args.goal → HasRow x.1 (members c.args.s.now) (Steps c.args.left) → ⊥ in
    all_next Open c.args.tables.now c.loop-table.table-index c.table-item.result c.loop-table-test.true c.loop-table.invariant (subst Open c.table-item.is (c.is_open_in.ensures.0 c.if-not-is_open_in.false))

pub returns : goal.returns
returns g c =
    let Open : GoalTable → Type 0 = λ x. x.0 ≡ c.args.goal → HasRow x.1 (members c.args.s.now) (Steps c.args.left) → ⊥ in
    all_found Open c.args.tables.now c.loop-table.table-index c.loop-table-test.false c.loop-table.invariant
