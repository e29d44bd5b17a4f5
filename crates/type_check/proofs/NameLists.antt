-- Lists of names that grow, and the first places of names in them.
use Rattle.std.proofs.Common.{◌≡◌, ◌⊎◌, inl, inr, ℕ, zero, suc, ◌+◌, ◌<◌, Bool, true, false, cond, List, [], ◌∷◌, ◌++◌, Some, length, map, get_or, take, slice_get, refl, sym, ap, ◌∙◌, subst, arith}
use mathlib.Core.Path.{ap₂}
use Rattle.std.specs.Prelude.{Contains}
use Rattle.std.specs.Str.{bytes_eq}
use Rattle.std.proofs.lemmas.Bool.{false≢true}
use Rattle.std.proofs.lemmas.Slice.Eq.{bytes_eq-Decides}
use Rattle.std.proofs.lemmas.List.{append_assoc, map_more, map_push}
use Rattle.std.proofs.lemmas.List.Elements.{Contains-append_left, Contains-append_right, Contains-append_cases}
use Rattle.pddl_reader.specs.Values.{PlainTypedName, PlainPredicate}
use Rattle.type_check.specs.Types.{names_of, place_in}
use Rattle.type_check.specs.Rules.{predicate_names, find_predicate, find_name}

-- the name of the next item of a list goes behind the names so far
pub name_next : {X : Type 0} (name : X → List ℕ) (old : List (List ℕ)) (xs : List X) (i : ℕ) (x : X) → i < length xs → x ≡ get_or xs i x
    → (names new : List (List ℕ)) → names ≡ old ++ map name (take i xs) → new ≡ names ++ name x ∷ []
    → new ≡ old ++ map name (take (i + 1) xs)
name_next name old xs i x within is names new before added =
    added ∙ ap (λ ns. ns ++ name x ∷ []) before ∙ append_assoc old (map name (take i xs)) (name x ∷ [])
    ∙ ap (λ ns. old ++ ns) (sym (map_more name xs i x within ∙ ap (λ y. map name (take i xs) ++ name y ∷ []) (sym is)))

-- what the next item of a list makes goes behind what those before it made
pub made_next : {X Y : Type 0} (f : X → Y) (xs : List X) (i : ℕ) (x : X) (y : Y) → i < length xs → x ≡ get_or xs i x
    → (made new : List Y) → made ≡ map f (take i xs) → y ≡ f x → new ≡ made ++ y ∷ [] → new ≡ map f (take (i + 1) xs)
made_next f xs i x y within is made new before here added =
    added ∙ ap₂ (λ front last. front ++ last ∷ []) before here
    ∙ sym (map_more f xs i x within ∙ ap (λ z. map f (take i xs) ++ f z ∷ []) (sym is))

pub names_next : (old : List (List ℕ)) (xs : List PlainTypedName) (i : ℕ) (x : PlainTypedName) → i < length xs → x ≡ get_or xs i x
    → (names new : List (List ℕ)) → names ≡ old ++ names_of (take i xs) → new ≡ names ++ x.name.text ∷ []
    → new ≡ old ++ names_of (take (i + 1) xs)
names_next old xs i x = name_next (λ n. n.name.text) old xs i x

-- a name of the list that is not its first is one of the rest
pub contains_rest : (x name : List ℕ) (names : List (List ℕ)) → bytes_eq x name ≡ false → Contains (x ∷ names) name → Contains names name
contains_rest x name names differ (zero, within, is) = absurd (false≢true (sym differ ∙ (bytes_eq-Decides x name).1 is))
contains_rest x name names differ (suc k, within, is) = (k, omega arith, is)

pub contains_none : (name : List ℕ) → Contains [] name → ⊥
contains_none name (k, within, is) = omega arith

-- the first place of a name of the list lies in it
pub place_within : (names : List (List ℕ)) (name : List ℕ) → Contains names name → place_in names name < length names
place_within [] name has = absurd (contains_none name has)
place_within (x ∷ names) name has = by (bytes_eq x name) refl (place_within names name)
  where
    by : (b : Bool) → bytes_eq x name ≡ b → (Contains names name → place_in names name < length names) → cond b 0 (suc (place_in names name)) < suc (length names)
    by true same rest = omega arith
    by false differ rest = let within = rest (contains_rest x name names differ has) in omega arith

-- what stands at the first place of its name is what is found by the name
pub name_found : (list : List PlainTypedName) (name : List ℕ) → Contains (names_of list) name → find_name list name ≡ slice_get list (place_in (names_of list) name)
name_found [] name has = absurd (contains_none name has)
name_found (n ∷ list) name has = by (bytes_eq n.name.text name) refl (name_found list name)
  where
    by : (b : Bool) → bytes_eq n.name.text name ≡ b
        → (Contains (names_of list) name → find_name list name ≡ slice_get list (place_in (names_of list) name))
        → cond b (Some n) (find_name list name) ≡ slice_get (n ∷ list) (cond b 0 (suc (place_in (names_of list) name)))
    by true same rest = refl
    by false differ rest = rest (contains_rest n.name.text name (names_of list) differ has)

pub predicate_found : (list : List PlainPredicate) (name : List ℕ) → Contains (predicate_names list) name → find_predicate list name ≡ slice_get list (place_in (predicate_names list) name)
predicate_found [] name has = absurd (contains_none name has)
predicate_found (q ∷ list) name has = by (bytes_eq q.name.text name) refl (predicate_found list name)
  where
    by : (b : Bool) → bytes_eq q.name.text name ≡ b
        → (Contains (predicate_names list) name → find_predicate list name ≡ slice_get list (place_in (predicate_names list) name))
        → cond b (Some q) (find_predicate list name) ≡ slice_get (q ∷ list) (cond b 0 (suc (place_in (predicate_names list) name)))
    by true same rest = refl
    by false differ rest = rest (contains_rest q.name.text name (predicate_names list) differ has)

-- ---- a predicate behind a list

-- it is found where none of the list has the name
pub found_before : (list : List PlainPredicate) (q : PlainPredicate) (name : List ℕ) → Contains (predicate_names list) name → find_predicate (list ++ q ∷ []) name ≡ find_predicate list name
found_before [] q name has = absurd (contains_none name has)
found_before (p ∷ list) q name has = by (bytes_eq p.name.text name) refl (found_before list q name)
  where
    by : (b : Bool) → bytes_eq p.name.text name ≡ b
        → (Contains (predicate_names list) name → find_predicate (list ++ q ∷ []) name ≡ find_predicate list name)
        → cond b (Some p) (find_predicate (list ++ q ∷ []) name) ≡ cond b (Some p) (find_predicate list name)
    by true same rest = refl
    by false differ rest = rest (contains_rest p.name.text name (predicate_names list) differ has)

pub found_behind : (list : List PlainPredicate) (q : PlainPredicate) (name : List ℕ) → (Contains (predicate_names list) name → ⊥) → q.name.text ≡ name → find_predicate (list ++ q ∷ []) name ≡ Some q
found_behind [] q name none same = ap (λ b. cond b (Some q) (find_predicate [] name)) ((bytes_eq-Decides q.name.text name).1 same)
found_behind (p ∷ list) q name none same = by (bytes_eq p.name.text name) refl (found_behind list q name)
  where
    by : (b : Bool) → bytes_eq p.name.text name ≡ b
        → ((Contains (predicate_names list) name → ⊥) → q.name.text ≡ name → find_predicate (list ++ q ∷ []) name ≡ Some q)
        → cond b (Some p) (find_predicate (list ++ q ∷ []) name) ≡ Some q
    by true here rest = absurd (none (0, omega arith, (bytes_eq-Decides p.name.text name).0 here))
    by false differ rest = rest (λ has. none (Contains-append_right (p.name.text ∷ []) (predicate_names list) name has)) same

module _ (list : List PlainPredicate) (q : PlainPredicate) (name : List ℕ) where
  abbrev names : List (List ℕ)
  names = predicate_names list

  names_push : predicate_names (list ++ q ∷ []) ≡ names ++ q.name.text ∷ []
  names_push = map_push (λ (p : PlainPredicate). p.name.text) list q

  pub known_before : Contains names name → Contains (predicate_names (list ++ q ∷ [])) name
  known_before has = subst (λ all. Contains all name) (sym names_push) (Contains-append_left names (q.name.text ∷ []) name has)

  pub known_behind : q.name.text ≡ name → Contains (predicate_names (list ++ q ∷ [])) name
  known_behind same = subst (λ all. Contains all name) (sym names_push) (Contains-append_right names (q.name.text ∷ []) name (0, omega arith, same))

  pub unknown_behind : (Contains names name → ⊥) → (q.name.text ≡ name → ⊥) → Contains (predicate_names (list ++ q ∷ [])) name → ⊥
  unknown_behind none differs has = by (Contains-append_cases names (q.name.text ∷ []) name (subst (λ all. Contains all name) names_push has))
    where
      by : Contains names name ⊎ Contains (q.name.text ∷ []) name → ⊥
      by (inl before) = none before
      by (inr (zero, within, same)) = differs same
      by (inr (suc k, within, same)) = omega arith
