use Rattle.std.proofs.Common.{◌≡◌, ◌<◌, ◌∙◌, ℕ, List, Some, Bor, length, map, slice_get, sym, ap, subst, arith}
use Rattle.std.specs.Prelude.{Contains}
use Rattle.std.proofs.lemmas.List.{length-map, get_or-map}
use Rattle.std.proofs.lemmas.Option.{slice_get-get_or}
use Rattle.pddl_reader.specs.Values.{PlainTypedName}
use Rattle.type_check.specs.Types.{names_of, place_in}
use Rattle.type_check.specs.Rules.{find_name}
use Rattle.type_check.proofs.NameLists.{place_within, name_found}
use Rattle.type_check.proofs.declared.Declared.find.Goals as goal

pub returns-in_err-place-clause-none : goal.returns-in_err-place-clause-none
returns-in_err-place-clause-none c =
    let none = subst (λ names. Contains names c.args.name.now → ⊥) (c.self.invariant.0 ∙ ap names_of c.self.view_is) c.in_err-place.ensures.none in
    rw c.from_residual.ensures none

-- the place of a name that is found
place_in_typed : (typed : List (Bor PlainTypedName)) (names : List (List ℕ)) (name : List ℕ) (place : ℕ) → names ≡ names_of (map (λ n. n.now) typed)
    → Contains names name → place ≡ place_in names name → place < length typed
place_in_typed typed names name place same has at =
    let within = place_within names name has in
    omega (arith, length-map typed (λ n. n.now), length-map (map (λ n. n.now) typed) (λ (n : PlainTypedName). n.name.text), ap length same)

pub index-requires : goal.index-requires
index-requires c =
    let typed = c.self.inside.typed in
    let within = place_in_typed typed.items c.self.inside.names c.args.name.now c.in_ok-place.place c.self.invariant.0 c.in_ok-place.ensures.found c.in_ok-place.ensures.place in
    omega (arith, typed.ok.0)

pub returns-clause-found : goal.returns-clause-found
returns-clause-found c =
    let typed = c.self.inside.typed in
    let plain = map (λ (n : Bor PlainTypedName). n.now) typed.items in
    let name = c.args.name.now in
    let place = c.in_ok-place.place in
    let names_same = c.self.invariant.0 in
    let has : Contains (names_of plain) name = subst (λ names. Contains names name) names_same c.in_ok-place.ensures.found in
    let at : place ≡ place_in (names_of plain) name = c.in_ok-place.ensures.place ∙ ap (λ names. place_in names name) names_same in
    let within = place_in_typed typed.items c.self.inside.names name place names_same c.in_ok-place.ensures.found c.in_ok-place.ensures.place in
    let d : PlainTypedName = c.index.result.now.now in
    let many = length-map typed.items (λ (n : Bor PlainTypedName). n.now) in
    let here : find_name plain name ≡ Some d =
    name_found plain name has ∙ ap (slice_get plain) (sym at) ∙ slice_get-get_or plain place d (omega arith)
    ∙ ap Some (get_or-map (λ (n : Bor PlainTypedName). n.now) typed.items place c.index.result.now d within ∙ ap (λ (n : Bor PlainTypedName). n.now) (sym c.index.ensures)) in
    subst (λ all. find_name all name ≡ Some d) c.self.view_is here
