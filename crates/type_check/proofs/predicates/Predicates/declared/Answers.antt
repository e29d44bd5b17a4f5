use Rattle.std.proofs.Common.{◌≡◌, ◌<◌, ◌∙◌, ℕ, List, Some, length, get_or, slice_get, sym, ap, subst, arith}
use Rattle.std.specs.Prelude.{Contains}
use Rattle.std.proofs.lemmas.List.{length-map}
use Rattle.std.proofs.lemmas.Option.{slice_get-get_or}
use Rattle.pddl_reader.specs.Values.{PlainPredicate}
use Rattle.type_check.specs.Types.{place_in}
use Rattle.type_check.specs.Rules.{predicate_names, find_predicate}
use Rattle.type_check.proofs.NameLists.{place_within, predicate_found}
use Rattle.type_check.proofs.predicates.Predicates.declared.Goals as goal

pub returns-in_err-place-clause-none : goal.returns-in_err-place-clause-none
returns-in_err-place-clause-none c =
    let none = subst (λ names. Contains names c.args.name.now → ⊥) (c.self.invariant.0 ∙ ap predicate_names c.self.view_is) c.in_err-place.ensures.none in
    rw c.from_residual.ensures none

-- the place of a name that is found
place_in_list : (list : List PlainPredicate) (names : List (List ℕ)) (name : List ℕ) (place : ℕ) → names ≡ predicate_names list
    → Contains names name → place ≡ place_in names name → place < length list
place_in_list list names name place same has at =
    let within = place_within names name has in
    omega (arith, length-map list (λ (q : PlainPredicate). q.name.text), ap length same)

pub bounds-self-inside-place : goal.bounds-self-inside-place
bounds-self-inside-place c =
    place_in_list c.self.inside.predicates.now c.self.inside.names c.args.name.now c.in_ok-place.place c.self.invariant.0 c.in_ok-place.ensures.found c.in_ok-place.ensures.place

pub returns-clause-found : goal.returns-clause-found
returns-clause-found c =
    let list = c.self.inside.predicates.now in
    let name = c.args.name.now in
    let place = c.in_ok-place.place in
    let same = c.self.invariant.0 in
    let has : Contains (predicate_names list) name = subst (λ names. Contains names name) same c.in_ok-place.ensures.found in
    let at : place ≡ place_in (predicate_names list) name = c.in_ok-place.ensures.place ∙ ap (λ names. place_in names name) same in
    let within = place_in_list list c.self.inside.names name place same c.in_ok-place.ensures.found c.in_ok-place.ensures.place in
    subst (λ all. find_predicate all name ≡ Some (get_or list place c.index-self-place.result)) c.self.view_is
    (predicate_found list name has ∙ ap (slice_get list) (sym at) ∙ slice_get-get_or list place c.index-self-place.result within)
