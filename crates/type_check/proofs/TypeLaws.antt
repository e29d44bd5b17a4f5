-- The types of a domain, and their parents by numbers.
use Rattle.std.proofs.Common.{◌≡◌, ℕ, zero, suc, ◌^◌, ◌<◌, ◌≤◌, ◌⊎◌, Bool, true, false, true≢false, cond, not, List, [], ◌∷◌, ◌++◌, length, get_or, set, map, filter, replicate, Option, Some, None, Contains, refl, sym, ap, ◌∙◌, subst, inl, inr, arith, length-append}
use mathlib.Core.Path.{ap₂}
use Rattle.std.specs.List.{IsDistinct, AllByRecursion}
use Rattle.std.specs.Prelude.{IsTrue, ◌↔◌}
use Rattle.std.specs.Option.{option_map, option_and_then}
use Rattle.std.specs.Str.{bytes_eq}
use Rattle.std.proofs.lemmas.Bool.{cases_lt}
use Rattle.std.proofs.lemmas.List.{get_or-map, get_or_past, length-map}
use Rattle.std.proofs.lemmas.List.Elements.{Contains-append_left, Contains-append_right, Contains-get_or, recursion_from_All}
use Rattle.std.proofs.lemmas.Option.{none-some, same_Some}
use Rattle.pddl_reader.specs.Values.{PlainTypedName, PlainDomain}
use Rattle.type_check.specs.Types.{object_type, names_of, type_of, is_entry, entries, parent_in, parent, above, LiesUnder, Returns, firsts, type_names, place_in}
use Rattle.type_check.specs.Typing.{IsShortDomain}
use Rattle.type_check.specs.Chains.{parent_at, climb, LeadsTo, Circles, AreReturning, AreWithin, parents_in, type_parents}
use Rattle.type_check.proofs.Counts.{few_types}
use Rattle.type_check.proofs.NameLaws.{eq-refl, each-filter, Contains-firsts, distinct-firsts, length-firsts, place-below, place-same}
use Rattle.type_check.proofs.ParentLaws.{parent_at-in, parent_at-place, length-parents_in}

Contains-map : {X : Type 0} (f : X → List ℕ) (xs : List X) (x : X) → Contains xs x → Contains (map f xs) (f x)
Contains-map f xs x h = (h.0, omega (arith, h.1, length-map xs f), get_or-map f xs h.0 x (f x) h.1 ∙ ap f h.2)

-- without an entry each type but `object` stands under `object`, which has number 0
under_first : (names xs : List (List ℕ)) → place_in names object_type ≡ 0
    → replicate (length (filter (λ y. not (bytes_eq object_type y)) xs)) (Some 0) ≡ map (λ t. option_map (place_in names) (parent_in [] t)) (filter (λ y. not (bytes_eq object_type y)) xs)
under_first names [] first = refl
under_first names (x ∷ xs) first = by (bytes_eq object_type x) refl (under_first names xs first)
  where
    by : (b : Bool) → bytes_eq object_type x ≡ b
        → replicate (length (filter (λ y. not (bytes_eq object_type y)) xs)) (Some 0) ≡ map (λ t. option_map (place_in names) (parent_in [] t)) (filter (λ y. not (bytes_eq object_type y)) xs)
        → replicate (length (cond (not b) (x ∷ filter (λ y. not (bytes_eq object_type y)) xs) (filter (λ y. not (bytes_eq object_type y)) xs))) (Some 0)
        ≡ map (λ t. option_map (place_in names) (parent_in [] t)) (cond (not b) (x ∷ filter (λ y. not (bytes_eq object_type y)) xs) (filter (λ y. not (bytes_eq object_type y)) xs))
    by true e rest = rest
    by false e rest =
        let here : Some 0 ≡ option_map (place_in names) (parent_in [] x) = sym (ap (λ b. option_map (place_in names) (cond b None (Some object_type))) e ∙ ap (λ (k : ℕ). Some k) first) in
        ap₂ (λ (p : Option ℕ) ps. p ∷ ps) here rest

pub some_type : (d : PlainDomain) → 0 < length (type_names d)
unfolding type_names
some_type d = omega arith

pub first_parents : (d : PlainDomain) → set (replicate (length (type_names d)) (Some 0)) 0 None ≡ parents_in (type_names d) []
unfolding type_names
first_parents d =
    let names = type_names d in
    let others = firsts (names_of d.types ++ map type_of d.types) in
    let none : None ≡ option_map (place_in names) (parent_in [] object_type) = sym (ap (λ b. option_map (place_in names) (cond b None (Some object_type))) (eq-refl object_type)) in
    let first : place_in names object_type ≡ 0 = ap (λ b. cond b 0 (suc (place_in (filter (λ y. not (bytes_eq object_type y)) others) object_type))) (eq-refl object_type) in
    ap₂ (λ (p : Option ℕ) ps. p ∷ ps) none (under_first names others first)

-- a parent is `object` or the parent of an entry
parent_among : (P : List ℕ → Type 0) (es : List PlainTypedName) (t s : List ℕ) → P object_type → AllByRecursion (λ n. P (type_of n)) es → parent_in es t ≡ Some s → P s
parent_among P [] t s top each h = by (bytes_eq object_type t) h
  where
    by : (b : Bool) → cond b None (Some object_type) ≡ Some s → P s
    by true h = absurd (none-some s h)
    by false h = subst P (same_Some object_type s h) top
parent_among P (n ∷ es) t s top each h = by (bytes_eq n.name.text t) h (parent_among P es t s top each.1)
  where
    by : (b : Bool) → cond b (Some (type_of n)) (parent_in es t) ≡ Some s → (parent_in es t ≡ Some s → P s) → P s
    by true h rest = subst P (same_Some (type_of n) s h) each.0
    by false h rest = rest h

module _ (d : PlainDomain) where
  pub distinct_types : IsDistinct bytes_eq (type_names d)
  unfolding type_names
  distinct_types = distinct-firsts (object_type ∷ names_of d.types ++ map type_of d.types)

  declared : (t : List ℕ) → Contains (names_of d.types) t → Contains (type_names d) t
  unfolding type_names
  declared t h =
      Contains-firsts (object_type ∷ names_of d.types ++ map type_of d.types) t
      (Contains-append_right (object_type ∷ []) (names_of d.types ++ map type_of d.types) t (Contains-append_left (names_of d.types) (map type_of d.types) t h))

  given : (t : List ℕ) → Contains (map type_of d.types) t → Contains (type_names d) t
  unfolding type_names
  given t h =
      Contains-firsts (object_type ∷ names_of d.types ++ map type_of d.types) t
      (Contains-append_right (object_type ∷ []) (names_of d.types ++ map type_of d.types) t (Contains-append_right (names_of d.types) (map type_of d.types) t h))

  -- a declared type and its parent are types
  pub type_known : (n : PlainTypedName) → Contains d.types n → Contains (type_names d) n.name.text
  type_known n h = declared n.name.text (Contains-map (λ (m : PlainTypedName). m.name.text) d.types n h)

  pub parent_known : (n : PlainTypedName) → Contains d.types n → Contains (type_names d) (type_of n)
  parent_known n h = given (type_of n) (Contains-map type_of d.types n h)

  pub few_type_names : IsShortDomain d → length (type_names d) ≤ 2 ^ 32
  unfolding type_names
  few_type_names h =
      omega (arith, length-firsts (object_type ∷ names_of d.types ++ map type_of d.types), length-append (names_of d.types) (map type_of d.types), length-map d.types (λ (m : PlainTypedName). m.name.text), length-map d.types type_of, few_types h.text d h.spells, h.short)

  pub object_first : place_in (type_names d) object_type ≡ 0
  unfolding type_names
  object_first =
      ap (λ b. cond b 0 (suc (place_in (filter (λ y. not (bytes_eq object_type y)) (firsts (names_of d.types ++ map type_of d.types))) object_type))) (eq-refl object_type)

  pub object_known : Contains (type_names d) object_type
  unfolding type_names
  object_known = (0, omega arith, refl)

  -- a parent is a type
  above_type : (t s : List ℕ) → parent d t ≡ Some s → Contains (type_names d) s
  above_type t s h =
      let each = recursion_from_All (λ (n : PlainTypedName). Contains (type_names d) (type_of n)) d.types
      (λ k n less. parent_known (get_or d.types k n) (Contains-get_or d.types k n less)) in
      parent_among (Contains (type_names d)) (entries d) t s object_known (each-filter (λ (n : PlainTypedName). Contains (type_names d) (type_of n)) is_entry d.types each) h

  pub above_known : (n : ℕ) (s u : List ℕ) → Contains (type_names d) s → above d n s ≡ Some u → Contains (type_names d) u
  above_known zero s u known h = subst (Contains (type_names d)) (same_Some s u h) known
  above_known (suc n) s u known h = by (parent d s) refl h (λ p. above_known n p u)
    where
      by : (o : Option (List ℕ)) → parent d s ≡ o → option_and_then (above d n) o ≡ Some u → ((p : List ℕ) → Contains (type_names d) p → above d n p ≡ Some u → Contains (type_names d) u) → Contains (type_names d) u
      by None e h rest = absurd (none-some u h)
      by (Some p) e h rest = rest p (above_type s p e) h

  -- a chain by names is a chain by numbers
  pub climb-above : (n : ℕ) (t : List ℕ) → Contains (type_names d) t → climb (type_parents d) n (place_in (type_names d) t) ≡ option_map (place_in (type_names d)) (above d n t)
  climb-above zero t known = refl
  climb-above (suc n) t known =
      ap (option_and_then (climb (type_parents d) n)) (parent_at-place (type_names d) (entries d) t known) ∙ by (parent d t) refl (climb-above n)
    where
      by : (o : Option (List ℕ)) → parent d t ≡ o → ((s : List ℕ) → Contains (type_names d) s → climb (type_parents d) n (place_in (type_names d) s) ≡ option_map (place_in (type_names d)) (above d n s))
          → option_and_then (climb (type_parents d) n) (option_map (place_in (type_names d)) o) ≡ option_map (place_in (type_names d)) (option_and_then (above d n) o)
      by None e rest = refl
      by (Some s) e rest = rest s (above_type t s e)

  pub leads_by_names : (s t : List ℕ) → Contains (type_names d) s → (n : ℕ) × (above d n s ≡ Some t) → LeadsTo (type_parents d) (place_in (type_names d) s) (place_in (type_names d) t)
  leads_by_names s t known way = (way.0, climb-above way.0 s known ∙ ap (option_map (place_in (type_names d))) way.1)

  pub leads_by_numbers : (s t : List ℕ) → Contains (type_names d) s → Contains (type_names d) t → LeadsTo (type_parents d) (place_in (type_names d) s) (place_in (type_names d) t) → (n : ℕ) × (above d n s ≡ Some t)
  leads_by_numbers s t known known_t way = (way.0, by (above d way.0 s) refl (sym (climb-above way.0 s known) ∙ way.1))
    where
      by : (o : Option (List ℕ)) → above d way.0 s ≡ o → option_map (place_in (type_names d)) (above d way.0 s) ≡ Some (place_in (type_names d) t) → above d way.0 s ≡ Some t
      by None e h = absurd (none-some (place_in (type_names d) t) (sym (ap (option_map (place_in (type_names d))) e) ∙ h))
      by (Some u) e h =
          let places = same_Some _ _ (sym (ap (option_map (place_in (type_names d))) e) ∙ h) in
          let same = place-same (type_names d) u t (above_known way.0 s u known e) known_t places in
          e ∙ ap (λ (x : List ℕ). Some x) same

  pub length-type_parents : length (type_parents d) ≡ length (type_names d)
  length-type_parents = length-parents_in (type_names d) (entries d)

  pub parents_within : AreWithin (type_parents d)
  parents_within j k up = by (cases_lt j (length (type_names d)))
    where
      inside : (o : Option (List ℕ)) → parent d (get_or (type_names d) j []) ≡ o → option_map (place_in (type_names d)) o ≡ Some k → k < length (type_parents d)
      inside None e h = absurd (none-some k h)
      inside (Some s) e h =
          omega (arith, same_Some _ _ h, place-below (type_names d) s (above_type (get_or (type_names d) j []) s e), length-type_parents)

      by : (j < length (type_names d)) ⊎ (length (type_names d) ≤ j) → k < length (type_parents d)
      by (inl less) = inside (parent d (get_or (type_names d) j [])) refl (sym (parent_at-in (type_names d) (entries d) j less) ∙ up)
      by (inr past) = absurd (none-some k (sym (get_or_past (type_parents d) j None (omega (arith, past, length-type_parents))) ∙ up))

  pub number_within : (t : List ℕ) → Contains (type_names d) t → place_in (type_names d) t < length (type_parents d)
  number_within t known = omega (arith, place-below (type_names d) t known, length-type_parents)

  pub record ReturnsAt (t : List ℕ) : Type 0 where
    pub known : Contains (type_names d) t
    pub up : ℕ
    pub is_parent : parent_at (type_parents d) (place_in (type_names d) t) ≡ Some up
    pub way : LeadsTo (type_parents d) up (place_in (type_names d) t)

  pub returns_by_names : (t : List ℕ) → Returns d t → ReturnsAt t
  returns_by_names t (n, h) = by (parent d t) refl h
    where
      by : (o : Option (List ℕ)) → parent d t ≡ o → option_and_then (above d n) o ≡ Some t → ReturnsAt t
      by None e h = absurd (none-some t h)
      by (Some s) e h =
          let known_parent = above_type t s e in
          let known = above_known n s t known_parent h in
          record {
            known = known;
            up = place_in (type_names d) s;
            is_parent = parent_at-place (type_names d) (entries d) t known ∙ ap (option_map (place_in (type_names d))) e;
            way = leads_by_names s t known_parent (n, h);
          }

  -- a type returns where its chain of numbers comes back
  circles_by_names : (t : List ℕ) → Returns d t → Circles (type_parents d) (place_in (type_names d) t)
  circles_by_names t h = (h.0, climb-above (suc h.0) t (returns_by_names t h).known ∙ ap (option_map (place_in (type_names d))) h.1)

  returns_by_numbers : (t : List ℕ) → Contains (type_names d) t → Circles (type_parents d) (place_in (type_names d) t) → Returns d t
  returns_by_numbers t known circles = (circles.0, by (above d (suc circles.0) t) refl (sym (climb-above (suc circles.0) t known) ∙ circles.1))
    where
      by : (o : Option (List ℕ)) → above d (suc circles.0) t ≡ o → option_map (place_in (type_names d)) (above d (suc circles.0) t) ≡ Some (place_in (type_names d) t) → above d (suc circles.0) t ≡ Some t
      by None e h = absurd (none-some (place_in (type_names d) t) (sym (ap (option_map (place_in (type_names d))) e) ∙ h))
      by (Some u) e h =
          let places = same_Some _ _ (sym (ap (option_map (place_in (type_names d))) e) ∙ h) in
          let same = place-same (type_names d) u t (above_known (suc circles.0) t u known e) known places in
          e ∙ ap (λ (x : List ℕ). Some x) same

  pub returns_as_marked : (marks : List Bool) (t : List ℕ) (k : ℕ) → AreReturning (type_parents d) marks → k ≡ place_in (type_names d) t → Contains (type_names d) t
      → IsTrue (get_or marks k false) ↔ Returns d t
  returns_as_marked marks t k are is known = (
    λ yes. returns_by_numbers t known ((are.marked (place_in (type_names d) t)).0 (ap (λ j. get_or marks j false) (sym is) ∙ yes)),
    λ h. ap (λ j. get_or marks j false) is ∙ (are.marked (place_in (type_names d) t)).1 (circles_by_names t h),
  )

  pub unknown_stays : (t : List ℕ) → (Contains (type_names d) t → ⊥) → Returns d t → ⊥
  unknown_stays t unknown h = unknown (returns_by_names t h).known

  -- what is asked of names, by numbers
  not_object : (t : List ℕ) → bytes_eq t object_type ≡ false → t ≡ object_type → ⊥
  not_object t differs same = true≢false (sym (ap (λ u. bytes_eq u object_type) same ∙ eq-refl object_type) ∙ differs)

  -- a type that is no type of the domain has none below it
  pub under_unknown : (s t : List ℕ) → Contains (type_names d) s → (Contains (type_names d) t → ⊥) → bytes_eq t object_type ≡ false → LiesUnder d s t → ⊥
  under_unknown s t known unknown differs (inl same) = not_object t differs same
  under_unknown s t known unknown differs (inr way) = unknown (above_known way.0 s t known way.1)

  module _ (parents : List (Option ℕ)) (are : parents ≡ type_parents d) where
    pub known_within : (k : ℕ) (t : List ℕ) → k ≡ place_in (type_names d) t → Contains (type_names d) t → k < length parents
    known_within k t is known = omega (arith, is, ap length are, number_within t known)

    pub all_within : AreWithin parents
    all_within = subst AreWithin (sym are) parents_within

    pub under_by_numbers : (s t : List ℕ) (j k : ℕ) (r : Bool) → j ≡ place_in (type_names d) s → k ≡ place_in (type_names d) t → Contains (type_names d) s → Contains (type_names d) t
        → bytes_eq t object_type ≡ false → IsTrue r ↔ LeadsTo parents j k → IsTrue r ↔ LiesUnder d s t
    under_by_numbers s t j k r is_s is_t known known_t differs answer = (
      λ yes. inr (leads_by_numbers s t known known_t (subst Goal are (subst (λ i. LeadsTo parents i (place_in (type_names d) t)) is_s (subst (λ i. LeadsTo parents j i) is_t (answer.0 yes))))),
      λ under. by under,
    )
      where
        Goal : List (Option ℕ) → Type 0
        Goal ps = LeadsTo ps (place_in (type_names d) s) (place_in (type_names d) t)

        by : LiesUnder d s t → IsTrue r
        by (inl same) = absurd (not_object t differs same)
        by (inr way) =
            let there = subst Goal (sym are) (leads_by_names s t known way) in
            answer.1 (subst (λ i. LeadsTo parents j i) (sym is_t) (subst (λ i. LeadsTo parents i (place_in (type_names d) t)) (sym is_s) there))

    pub few_parents : (names : List (List ℕ)) → names ≡ type_names d → length names ≤ 2 ^ 32 → length parents ≤ 2 ^ 32
    few_parents names are_names few = omega (arith, ap length are, length-type_parents, ap length are_names)

    pub returning_of : (marks : List Bool) → AreReturning parents marks → AreReturning (type_parents d) marks
    returning_of marks h = subst (λ ps. AreReturning ps marks) are h

  pub few_by_names : (names : List (List ℕ)) → names ≡ type_names d → IsShortDomain d → length names ≤ 2 ^ 32
  few_by_names names are short = subst (λ ns. length ns ≤ 2 ^ 32) (sym are) (few_type_names short)
