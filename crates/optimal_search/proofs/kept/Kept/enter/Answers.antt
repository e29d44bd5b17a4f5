use Rattle.std.proofs.Common.{◌∙◌, sym, subst, None}
use Rattle.std.specs.Prelude.{Contains}
use Rattle.indexmap.proofs.CallerLemmas.{insert_entry-new}
use Rattle.grd_base.specs.declared.limits.Bound.TheVariants.{Steps}
use Rattle.grd_base.proofs.SameLemmas.{bits_eq, bits_eq-Decides}
use Rattle.optimal_search.specs.Kept.{rows_in, HasBound}
use Rattle.optimal_search.specs.declared.kept.Proved.{Proved}
use Rattle.optimal_search.proofs.KeptLemmas.{known_has, none_of, push_from, push_grows, push_has}
use Rattle.optimal_search.proofs.kept.Kept.enter.Goals as goal

pub returns-then-is_some-clause-entered : goal.returns-then-is_some-clause-entered
returns-then-is_some-clause-entered g c =
    known_has bits_eq bits_eq-Decides c.args.self.now.proved.entries c.args.s.now (sym c.get_index_of.ensures.found ∙ sym c.is_some.ensures ∙ c.if-is_some.true)

pub returns-clause-made : goal.returns-clause-made
returns-clause-made g c =
    let bare : Proved g.row.M.Denot = record { bound = Steps 0; mark = None } in
    let new = c.in_ok-insert.ensures.entries ∙ insert_entry-new bits_eq c.args.self.now.proved c.args.s.now bare (none_of _ (sym c.get_index_of.ensures.found ∙ sym c.is_some.ensures ∙ c.if-is_some.false)) in
    λ row there. push_from c.args.self.now.proved.entries (c.args.s.now, bare) row (subst (λ es. Contains (rows_in es) row) new there)

pub returns-clause-grows : goal.returns-clause-grows
returns-clause-grows g c t bound has =
    let bare : Proved g.row.M.Denot = record { bound = Steps 0; mark = None } in
    let new = c.in_ok-insert.ensures.entries ∙ insert_entry-new bits_eq c.args.self.now.proved c.args.s.now bare (none_of _ (sym c.get_index_of.ensures.found ∙ sym c.is_some.ensures ∙ c.if-is_some.false)) in
    subst (λ es. HasBound (rows_in es) t bound) (sym new) (push_grows c.args.self.now.proved.entries (c.args.s.now, bare) t bound has)

pub returns-clause-entered : goal.returns-clause-entered
returns-clause-entered g c =
    let bare : Proved g.row.M.Denot = record { bound = Steps 0; mark = None } in
    let new = c.in_ok-insert.ensures.entries ∙ insert_entry-new bits_eq c.args.self.now.proved c.args.s.now bare (none_of _ (sym c.get_index_of.ensures.found ∙ sym c.is_some.ensures ∙ c.if-is_some.false)) in
    subst (λ es. HasBound (rows_in es) c.args.s.now (Steps 0)) (sym new) (push_has c.args.self.now.proved.entries c.args.s.now bare)
