use Rattle.std.proofs.Common.{◌+◌, arith, sym, ◌∙◌, ap, subst}
use Rattle.strips_model.specs.Plans.{set_of}
use Rattle.design_certificate.specs.Live.{PlainLiveRow}
use Rattle.design_certificate.specs.Index.{IsIndexed}
use Rattle.design_certificate.proofs.IndexLemmas.{index_more}
use Rattle.design_certificate.proofs.index.note_row.Goals as goal

pub returns : goal.returns
returns g c rows n at indexed =
    let state = c.state_of-state.ensures ∙ ap set_of (c.as_slice.ensures.value ∙ ap (λ (r : PlainLiveRow). r.state) c.row.view_is) in
    let depth = ap (λ (r : PlainLiveRow). r.depth) c.row.view_is in
    subst (IsIndexed rows (n + 1) c.insert.new.self.entries) (sym c.in_ok-push.ensures.items)
    (index_more rows n c.args.row.now at _ c.whole.ensures state depth c.args.last.now.entries c.insert.new.self.entries c.args.earlier.now.items c.in_ok-before.before c.len.result (omega (arith, c.len.ensures, c.args.earlier.now.ok.0))
    c.in_ok-before.ensures.old c.in_ok-before.ensures.unique c.in_ok-before.ensures.updates.0 indexed)
