use Rattle.std.proofs.Common.{sym, subst, ◌∙◌, inl}
use Rattle.std.specs.Prelude.{Contains}
use Rattle.std.proofs.lemmas.Bool.{false≢true}
use Rattle.grd_base.specs.declared.limits.Bound.TheVariants.{Steps}
use Rattle.grd_base.proofs.SameLemmas.{bits_eq, bits_eq-Decides}
use Rattle.cost_certificate.proofs.OrderLemmas.{at_most_other}
use Rattle.optimal_search.specs.Kept.{rows_in, HasBound}
use Rattle.optimal_search.proofs.KeptLemmas.{entry_by, set_from, set_grows, set_at, set_same, has_at, has_lower, missed}
use Rattle.optimal_search.proofs.kept.Kept.raise.Goals as goal

pub returns-then-not-is_enough-clause-made : goal.returns-then-not-is_enough-clause-made
returns-then-not-is_enough-clause-made g c =
    let es = c.args.self.now.proved.entries in
    let at = entry_by bits_eq bits_eq-Decides es c.args.row.state c.in-Some.place c.index_mut-known.result.now c.index_mut-known.ensures.value (sym c.in-Some.ensures.index) in
    set_from es c.in-Some.place record { bound = c.args.row.bound; mark = c.args.row.mark } c.args.row.state c.index_mut-known.result.now at

pub returns-then-not-is_enough-clause-grows : goal.returns-then-not-is_enough-clause-grows
returns-then-not-is_enough-clause-grows g c =
    let es = c.args.self.now.proved.entries in
    let at = entry_by bits_eq bits_eq-Decides es c.args.row.state c.in-Some.place c.index_mut-known.result.now c.index_mut-known.ensures.value (sym c.in-Some.ensures.index) in
    set_grows es c.in-Some.place record { bound = c.args.row.bound; mark = c.args.row.mark } c.args.row.state c.index_mut-known.result.now at
    (at_most_other c.args.row.bound c.index_mut-known.result.now.bound (λ low. false≢true (sym c.if-not-is_enough.true ∙ c.is_enough.ensures.1 low)))

pub returns-then-not-is_enough-clause-held : goal.returns-then-not-is_enough-clause-held
returns-then-not-is_enough-clause-held g c =
    let es = c.args.self.now.proved.entries in
    let at = entry_by bits_eq bits_eq-Decides es c.args.row.state c.in-Some.place c.index_mut-known.result.now c.index_mut-known.ensures.value (sym c.in-Some.ensures.index) in
    has_at _ c.in-Some.place c.args.row.state record { bound = c.args.row.bound; mark = c.args.row.mark }
    (set_at es c.in-Some.place record { bound = c.args.row.bound; mark = c.args.row.mark } c.args.row.state c.index_mut-known.result.now at)

pub returns-else-not-is_enough-clause-made : goal.returns-else-not-is_enough-clause-made
returns-else-not-is_enough-clause-made g c other there =
    let es = c.args.self.now.proved.entries in
    let at = entry_by bits_eq bits_eq-Decides es c.args.row.state c.in-Some.place c.index_mut-known.result.now c.index_mut-known.ensures.value (sym c.in-Some.ensures.index) in
    let same = set_same es c.in-Some.place c.args.row.state c.index_mut-known.result.now at in
    inl (subst (λ new. Contains (rows_in new) other) same there)

pub returns-else-not-is_enough-clause-grows : goal.returns-else-not-is_enough-clause-grows
returns-else-not-is_enough-clause-grows g c s bound has =
    let es = c.args.self.now.proved.entries in
    let at = entry_by bits_eq bits_eq-Decides es c.args.row.state c.in-Some.place c.index_mut-known.result.now c.index_mut-known.ensures.value (sym c.in-Some.ensures.index) in
    let same = set_same es c.in-Some.place c.args.row.state c.index_mut-known.result.now at in
    subst (λ new. HasBound (rows_in new) s bound) (sym same) has

pub returns-else-not-is_enough-clause-held : goal.returns-else-not-is_enough-clause-held
returns-else-not-is_enough-clause-held g c =
    let es = c.args.self.now.proved.entries in
    let at = entry_by bits_eq bits_eq-Decides es c.args.row.state c.in-Some.place c.index_mut-known.result.now c.index_mut-known.ensures.value (sym c.in-Some.ensures.index) in
    let same = set_same es c.in-Some.place c.args.row.state c.index_mut-known.result.now at in
    subst (λ new. HasBound (rows_in new) c.args.row.state c.args.row.bound) (sym same)
    (has_lower (rows_in es) c.args.row.state c.args.row.bound c.index_mut-known.result.now.bound (c.is_enough.ensures.0 c.if-not-is_enough.false) (has_at es c.in-Some.place c.args.row.state c.index_mut-known.result.now at))

pub returns-in_default-clause-held : goal.returns-in_default-clause-held
returns-in_default-clause-held g c =
    absurd (missed bits_eq bits_eq-Decides c.args.self.now.proved.entries c.args.row.state (Steps 0) (sym c.in_default.ensures.found) c.requires.entered)
