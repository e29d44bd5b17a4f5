use Rattle.std.proofs.Common.{◌↔◌, ◌∙◌, ap, subst}
use Rattle.std.specs.Prelude.{IsTrue}
use Rattle.grd_base.specs.Bits.{members}
use Rattle.strips_model.specs.Plans.{set_of}
use Rattle.cost_certificate.specs.Rows.{PlainRow}
use Rattle.cost_certificate.specs.Tables.{RowsHold}
use Rattle.cost_certificate.proofs.BoundLemmas.{needed_by_steps}
use Rattle.cost_certificate.proofs.bounds.is_supported.Goals as goal

pub returns-in-Steps : goal.returns-in-Steps
returns-in-Steps g c rows best =
    subst (λ (row : PlainRow). IsTrue c.steps_hold.result ↔ RowsHold c.args.moves.now.task c.args.moves.now.removed rows row row.why) c.row.view_is
    (needed_by_steps c.args.moves.now.task c.args.moves.now.removed rows _ (members c.state_of-s.result) c.in-Steps.is (c.state_of-s.ensures ∙ ap set_of c.as_slice.ensures.value)
    c.steps_hold.result (c.steps_hold.ensures rows best))
