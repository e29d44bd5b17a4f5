use Rattle.std.proofs.Common.{sym, ◌∙◌, ap}
use Rattle.std.proofs.lemmas.Bool.{false≢true}
use Rattle.strips_model.specs.Plans.{set_of}
use Rattle.cost_certificate.proofs.BoundLemmas.{best_known, best_more}
use Rattle.cost_certificate.proofs.bounds.note_row.Goals as goal

pub returns-then-has_bound : goal.returns-then-has_bound
returns-then-has_bound g c before best =
    rw (← c.row.view_is) (best_known c.args.bounds.now.entries before _ c.state_of-s.result (c.state_of-s.ensures ∙ ap set_of c.as_slice.ensures.value) best (c.has_bound.ensures.0 c.if-has_bound.true))

pub returns : goal.returns
returns g c before best =
    rw (← c.row.view_is, c.in_ok-insert.ensures.entries)
    (best_more c.args.bounds.now.entries before _ c.state_of-s.result (c.state_of-s.ensures ∙ ap set_of c.as_slice.ensures.value) best c.whole.ensures
    (λ some. false≢true (sym c.if-has_bound.false ∙ c.has_bound.ensures.1 some)))
