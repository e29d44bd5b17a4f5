use Rattle.std.proofs.Common.{◌≡◌, ◌∙◌, sym, ap, refl, Some}
use Rattle.std.specs.Prelude.{slice_get}
use Rattle.std.specs.Option.{option_map}
use Rattle.std.specs.Map.Iter.{deref_pair}
use Rattle.search_core.proofs.TurnLemmas.{taken_of, end_of_search}
use Rattle.search_core.proofs.turns.search.Goals as goal

pub returns-then-done-clause-found : goal.returns-then-done-clause-found
returns-then-done-clause-found g c =
    let here : slice_get c.next_waiting.new.reach.found.entries c.in-Some.place ≡ Some (c.unwrap.result.0.now, c.unwrap.result.1.now) = sym c.get_index.ensures.entry ∙ ap (option_map deref_pair) c.unwrap.ensures in
    end_of_search _ _ _ _ _ _ _ _ _ _ _ c.in-Some.ensures.found c.in-Some.ensures.kept c.loop-place.invariant _ _ c.in-Some.ensures.next (c.unwrap.result.0.now, c.unwrap.result.1.now) here c.if-done.ensures

pub turn-requires-clause-taken : goal.turn-requires-clause-taken
turn-requires-clause-taken g c = taken_of _ _ _ _ _ _ _ _ _ _ _ c.in-Some.ensures.found c.in-Some.ensures.kept c.loop-place.invariant _ _ c.in-Some.ensures.next

pub turn-requires-clause-state : goal.turn-requires-clause-state
turn-requires-clause-state g c =
    let here : slice_get c.next_waiting.new.reach.found.entries c.in-Some.place ≡ Some (c.unwrap.result.0.now, c.unwrap.result.1.now) = sym c.get_index.ensures.entry ∙ ap (option_map deref_pair) c.unwrap.ensures in
    record { entry = (c.unwrap.result.0.now, c.unwrap.result.1.now); at = here; state_is = refl }
