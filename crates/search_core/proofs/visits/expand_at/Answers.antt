use Rattle.std.proofs.Common.{◌≡◌, ◌∙◌, sym, ap, Some, true≢false}
use Rattle.std.specs.Prelude.{slice_get}
use Rattle.std.specs.Option.{option_map, is_some}
use Rattle.std.specs.Map.Iter.{deref_pair}
use Rattle.search_core.proofs.LookupLemmas.{none_of}
use Rattle.search_core.proofs.VisitLemmas.{explore_cut, explore_next, head_of}
use Rattle.search_core.proofs.visits.expand_at.Goals as goal

pub returns-then-is_some-clause-on : goal.returns-then-is_some-clause-on
returns-then-is_some-clause-on g c =
    let here : slice_get c.args.progress.now.found.entries c.args.place ≡ Some (c.unwrap.result.0.now, c.unwrap.result.1.now) = sym c.get_index.ensures.entry ∙ ap (option_map deref_pair) c.unwrap.ensures in
    explore_cut _ _ _ _ _ _ _ _ _ _ (c.unwrap.result.0.now, c.unwrap.result.1.now) c.requires.exploring here (λ none. true≢false (sym c.if-is_some.true ∙ c.is_some.ensures ∙ ap is_some none))

pub expand-requires-clause-head : goal.expand-requires-clause-head
expand-requires-clause-head g c =
    let here : slice_get c.args.progress.now.found.entries c.args.place ≡ Some (c.unwrap.result.0.now, c.unwrap.result.1.now) = sym c.get_index.ensures.entry ∙ ap (option_map deref_pair) c.unwrap.ensures in
    head_of _ _ _ _ _ _ _ _ _ _ (c.unwrap.result.0.now, c.unwrap.result.1.now) c.requires.exploring here (none_of _ (sym c.is_some.ensures ∙ c.if-is_some.false))

pub returns-clause-on : goal.returns-clause-on
returns-clause-on g c =
    let here : slice_get c.args.progress.now.found.entries c.args.place ≡ Some (c.unwrap.result.0.now, c.unwrap.result.1.now) = sym c.get_index.ensures.entry ∙ ap (option_map deref_pair) c.unwrap.ensures in
    explore_next _ _ _ _ _ _ _ _ _ _ _ _ (c.unwrap.result.0.now, c.unwrap.result.1.now) _ _ c.requires.exploring here (c.as_slice.ensures.value ∙ c.in_ok-steps.ensures) c.expand.ensures.on
