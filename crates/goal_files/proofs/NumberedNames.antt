-- Names by their places in a list of different names.
use Rattle.std.proofs.Common.{◌≡◌, ℕ, ◌+◌, ◌<◌, ◌≤◌, Bool, false, cond, List, [], ◌∷◌, ◌++◌, length, map, take, get_or, sym, ap, ◌∙◌, subst, inl, inr, arith, Some, Bor}
use Rattle.std.specs.Prelude.{◌⊎◌, slice_get, position}
use Rattle.std.specs.List.{Contains, list_any}
use Rattle.std.specs.Str.{bytes_eq}
use Rattle.indexmap.specs.IndexSet.{insert_key}
use Rattle.std.proofs.lemmas.Bool.{false≢true, cases_lt, false_from_ne_true}
use Rattle.std.proofs.lemmas.List.{length-map, map_push, map_more, get_or-map, get_or-take, length-take-le}
use Rattle.std.proofs.lemmas.List.Elements.{Contains-get_or}
use Rattle.std.proofs.lemmas.List.Folds.{list_any_at, Any-from_list_any}
use Rattle.std.proofs.lemmas.List.Quantifiers.{position-Some}
use Rattle.std.proofs.lemmas.Option.{slice_get-get_or, slice_get_within, get_or_from_slice_get}
use Rattle.std.proofs.lemmas.Slice.Eq.{bytes_eq-Decides}
use Rattle.type_check.specs.Numbered.{AreNumbered}

abbrev Keys : Type 0
Keys = List (Bor (List ℕ))

abbrev texts_of : Keys → List (List ℕ)
texts_of keys = map (λ (k : Bor (List ℕ)). k.now) keys

abbrev has_text : List ℕ → Bor (List ℕ) → Bool
has_text name k = bytes_eq name k.now

abbrev same_text : Bor (List ℕ) → Bor (List ℕ) → Bool
same_text a b = bytes_eq a.now b.now

-- ---- a name that is put behind the others

at_key : (keys : Keys) (i : ℕ) (k : Bor (List ℕ)) → i < length keys → get_or keys i k ≡ k → Contains (texts_of keys) k.now
at_key keys i k within is =
    subst (Contains (texts_of keys)) (get_or-map (λ (k : Bor (List ℕ)). k.now) keys i k k.now within ∙ ap (λ (k : Bor (List ℕ)). k.now) is)
    (Contains-get_or (texts_of keys) i k.now (omega (arith, length-map keys (λ (k : Bor (List ℕ)). k.now))))

not_there : (keys : Keys) (name : List ℕ) → (Contains (texts_of keys) name → ⊥) → list_any (has_text name) keys ≡ false
not_there keys name none =
    false_from_ne_true (list_any (has_text name) keys) (λ yes.
    let any = Any-from_list_any (has_text name) keys yes in
    none (subst (Contains (texts_of keys)) (sym ((bytes_eq-Decides name any.1.now).0 any.4)) (at_key keys any.0 any.1 any.2 any.3)))

pub name_behind : (old new : Keys) (key : Bor (List ℕ)) → new ≡ insert_key same_text old key → (Contains (texts_of old) key.now → ⊥) → texts_of new ≡ texts_of old ++ key.now ∷ []
name_behind old new key e none =
    ap texts_of (e ∙ ap (λ b. cond b old (old ++ key ∷ [])) (not_there old key.now none)) ∙ map_push (λ (k : Bor (List ℕ)). k.now) old key

-- ---- a name that is looked up

pub name_found : (keys : Keys) (name : List ℕ) (i : ℕ) → Some i ≡ position (has_text name) keys → slice_get (texts_of keys) i ≡ Some name
name_found keys name i e =
    let k : Bor (List ℕ) = record { ref_ptr = (0, 0); now = name } in
    let found = position-Some (has_text name) keys i k (sym e) in
    let here : get_or (texts_of keys) i name ≡ name = get_or-map (λ (k : Bor (List ℕ)). k.now) keys i k name found.0 ∙ sym ((bytes_eq-Decides name (get_or keys i k).now).0 found.1) in
    slice_get-get_or (texts_of keys) i name (omega (arith, length-map keys (λ (k : Bor (List ℕ)). k.now), found.0)) ∙ ap Some here

pub name_missing : (keys : Keys) (name : List ℕ) (n : ℕ) → list_any (has_text name) keys ≡ false → slice_get (texts_of keys) n ≡ Some name → ⊥
name_missing keys name n none at =
    let k : Bor (List ℕ) = record { ref_ptr = (0, 0); now = name } in
    let within : n < length keys = omega (arith, slice_get_within (texts_of keys) n name at, length-map keys (λ (k : Bor (List ℕ)). k.now)) in
    let here : name ≡ (get_or keys n k).now = sym (get_or_from_slice_get (texts_of keys) n name name at) ∙ get_or-map (λ (k : Bor (List ℕ)). k.now) keys n k name within in
    false≢true (sym none ∙ list_any_at (has_text name) keys n k within ((bytes_eq-Decides name (get_or keys n k).now).1 here))

-- ---- different names

-- a name has one place
pub one_place : (names : List (List ℕ)) (name : List ℕ) (m n : ℕ) → AreNumbered names → slice_get names m ≡ Some name → slice_get names n ≡ Some name → m ≡ n
one_place names name m n numbered at other = by (cases_lt m n) (cases_lt n m)
  where
    apart : (i j : ℕ) → i < j → slice_get names i ≡ Some name → slice_get names j ≡ Some name → ⊥
    apart i j less at other =
        numbered.differ i j name less (slice_get_within names j name other) (get_or_from_slice_get names i name name at ∙ sym (get_or_from_slice_get names j name name other))

    by : (m < n) ⊎ (n ≤ m) → (n < m) ⊎ (m ≤ n) → m ≡ n
    by (inl less) other_way = absurd (apart m n less at other)
    by (inr up) (inl less) = absurd (apart n m less other at)
    by (inr up) (inr down) = omega arith

module _ {X : Type 0} (name : X → List ℕ) (xs : List X) (i : ℕ) (d : X) (within : i < length xs) (old : List (List ℕ)) (text : List ℕ) (so_far : old ≡ map name (take i xs)) (is : text ≡ name (get_or xs i d)) where
  -- the next name is none of those before it
  pub not_before : AreNumbered (map name xs) → Contains old text → ⊥
  not_before numbered seen =
      let next = name (get_or xs i d) in
      let there = subst (λ t. Contains (map name (take i xs)) t) is (subst (λ names. Contains names text) so_far seen) in
      let in_front : there.0 < i = omega (arith, there.1, length-map (take i xs) name, length-take-le i xs) in
      let before : get_or (map name xs) there.0 next ≡ next =
      get_or-map name xs there.0 d next (omega arith) ∙ ap name (sym (get_or-take i xs there.0 d in_front)) ∙ sym (get_or-map name (take i xs) there.0 d next (omega (arith, length-take-le i xs))) ∙ there.2 in
      numbered.differ there.0 i next in_front (omega (arith, length-map xs name)) (before ∙ sym (get_or-map name xs i d next within))

  pub names_more : (new : List (List ℕ)) → new ≡ old ++ text ∷ [] → new ≡ map name (take (i + 1) xs)
  names_more new more = more ∙ ap (λ names. names ++ text ∷ []) so_far ∙ ap (λ t. map name (take i xs) ++ t ∷ []) is ∙ sym (map_more name xs i d within)
