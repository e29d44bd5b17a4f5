-- What an index of names says of the list of their texts.
use Rattle.std.proofs.Common.{◌≡◌, ◌≢◌, ℕ, suc, ◌+◌, ◌<◌, Bool, true, false, cond, not, ◌||◌, ltb, List, [], ◌∷◌, ◌++◌, length, map, Option, Some, None, Bor, Contains, position, refl, sym, ap, ◌∙◌, subst, arith, true≢false}
use Rattle.std.specs.List.{list_any, position_or_len, AllPairs}
use Rattle.std.specs.Option.{IfNone}
use Rattle.std.specs.Str.{bytes_eq}
use Rattle.std.proofs.lemmas.Bool.{ltb-true, ltb-false}
use Rattle.std.proofs.lemmas.Option.{cond_some}
use Rattle.std.proofs.lemmas.List.{map-append, length-map}
use Rattle.std.proofs.lemmas.List.Elements.{Contains-get_or}
use Rattle.std.proofs.lemmas.List.Quantifiers.{all_pairs_push}
use Rattle.indexmap.specs.IndexSet.{insert_key}
use Rattle.type_check.specs.Types.{place_in}
use Rattle.type_check.specs.Tables.{AddsTo}
use Rattle.type_check.proofs.NameLaws.{has, has-Decides, eq-sym, place-within, place-past}

abbrev pub texts_in : List (Bor (List ℕ)) → List (List ℕ)
texts_in keys = map (λ k. k.now) keys

-- the first place of a name
place-or_len : (keys : List (Bor (List ℕ))) (name : List ℕ) → position_or_len (λ k. bytes_eq name k.now) keys ≡ place_in (texts_in keys) name
place-or_len [] name = refl
place-or_len (k ∷ keys) name = by (bytes_eq name k.now) (bytes_eq k.now name) (eq-sym name k.now) (place-or_len keys name)
  where
    by : (a b : Bool) → a ≡ b → position_or_len (λ k. bytes_eq name k.now) keys ≡ place_in (texts_in keys) name
        → cond (not a) (1 + position_or_len (λ k. bytes_eq name k.now) keys) 0 ≡ cond b 0 (suc (place_in (texts_in keys) name))
    by true true e rest = refl
    by true false e rest = absurd (true≢false e)
    by false true e rest = absurd (true≢false (sym e))
    by false false e rest = omega (arith, rest)

has-keys : (keys : List (Bor (List ℕ))) (name : List ℕ) → list_any (λ k. bytes_eq name k.now) keys ≡ has (texts_in keys) name
has-keys [] name = refl
has-keys (k ∷ keys) name = ap (λ b. bytes_eq name k.now || b) (has-keys keys name)

module _ (keys : List (Bor (List ℕ))) (name : List ℕ) where
  -- a name that was found
  placed : (n : ℕ) → position (λ k. bytes_eq name k.now) keys ≡ Some n → (n ≡ place_in (texts_in keys) name) × Contains (texts_in keys) name
  placed n h =
      let found = cond_some _ _ _ h in
      let is : n ≡ place_in (texts_in keys) name = sym found.1 ∙ place-or_len keys name in
      let less : position_or_len (λ k. bytes_eq name k.now) keys < length keys = ltb-true _ _ found.0 in
      (is, by (has (texts_in keys) name) refl (omega (arith, less, place-or_len keys name, length-map keys (λ (k : Bor (List ℕ)). k.now))))
    where
      by : (b : Bool) → has (texts_in keys) name ≡ b → place_in (texts_in keys) name < length (texts_in keys) → Contains (texts_in keys) name
      by true e less = (has-Decides (texts_in keys) name).0 e
      by false e less = absurd (omega (arith, less, place-past (texts_in keys) name e))

  pub placed_some : (names : List (List ℕ)) (n : ℕ) → names ≡ texts_in keys → position (λ k. bytes_eq name k.now) keys ≡ Some n → (n ≡ place_in names name) × Contains names name
  placed_some names n is h = subst (λ names. (n ≡ place_in names name) × Contains names name) (sym is) (placed n h)

  -- and one that was not
  absent : position (λ k. bytes_eq name k.now) keys ≡ None → Contains (texts_in keys) name → ⊥
  absent h there = by (ltb (position_or_len (λ k. bytes_eq name k.now) keys) (length keys)) refl h
    where
      by : (b : Bool) → ltb (position_or_len (λ k. bytes_eq name k.now) keys) (length keys) ≡ b → cond b (Some (position_or_len (λ k. bytes_eq name k.now) keys)) None ≡ None → ⊥
      by true e h = cc
      by false e h =
          omega (arith, ltb-false _ _ e, place-or_len keys name, length-map keys (λ (k : Bor (List ℕ)). k.now), place-within (texts_in keys) name ((has-Decides (texts_in keys) name).1 there))

  pub placed_none : (names : List (List ℕ)) (r : Option ℕ) → names ≡ texts_in keys → position (λ k. bytes_eq name k.now) keys ≡ None → IfNone r (Contains names name → ⊥)
  placed_none names None is h = λ there. absent h (subst (λ names. Contains names name) is there)
  placed_none names (Some n) is h = tt

  -- a name that was added, or was there
  module _ (key : Bor (List ℕ)) (is : key.now ≡ name) where
    added_by : (old new : List (Bor (List ℕ))) (there : Bool) → has (texts_in old) name ≡ there → new ≡ cond there old (old ++ key ∷ []) → AddsTo (texts_in old) (texts_in new) name (not there)
    added_by old new true has_it same = ((has-Decides (texts_in old) name).0 has_it, ap texts_in same)
    added_by old new false has_not more = (
      λ there. true≢false (sym ((has-Decides (texts_in old) name).1 there) ∙ has_not),
      ap texts_in more ∙ map-append (λ (k : Bor (List ℕ)). k.now) old (key ∷ []) ∙ ap (λ t. texts_in old ++ t ∷ []) is,
    )

    pub added_name : (old : List (List ℕ)) (new : List (Bor (List ℕ))) (b : Bool) → old ≡ texts_in keys → b ≡ not (list_any (λ k. bytes_eq key.now k.now) keys) → new ≡ insert_key (λ x y. bytes_eq x.now y.now) keys key
        → AddsTo old (texts_in new) name b
    added_name old new b was added keys_are =
        let there = list_any (λ (k : Bor (List ℕ)). bytes_eq key.now k.now) keys in
        let same : has (texts_in keys) name ≡ there = sym (has-keys keys name) ∙ ap (λ t. list_any (λ (k : Bor (List ℕ)). bytes_eq t k.now) keys) (sym is) in
        subst (λ names. AddsTo names (texts_in new) name b) (sym was) (subst (AddsTo (texts_in keys) (texts_in new) name) (sym added) (added_by keys new there same keys_are))

  -- names stay different
  pub different_names : (old new : List (List ℕ)) (b : Bool) → AllPairs (λ x y. x ≢ y) old → AddsTo old new name b → AllPairs (λ x y. x ≢ y) new
  different_names old new true apart h =
      subst (AllPairs (λ x y. x ≢ y)) (sym h.1)
      (all_pairs_push (λ x y. x ≢ y) old name apart (λ k d less same. h.0 (subst (Contains old) same (Contains-get_or old k d less))))
  different_names old new false apart h = subst (AllPairs (λ x y. x ≢ y)) (sym h.1) apart
