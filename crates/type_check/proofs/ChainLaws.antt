-- Chains of parents by numbers: a chain of more steps than there are types has met a type twice.
use Rattle.std.proofs.Common.{◌≡◌, ℕ, zero, suc, ◌+◌, ◌*◌, ◌^◌, ◌-◌, ◌<◌, ◌≤◌, ◌⊎◌, Bool, true, false, eqb, ◌||◌, List, [], ◌∷◌, length, get_or, set, map, Option, Some, None, refl, sym, ap, ◌∙◌, subst, inl, inr, arith}
use Rattle.std.specs.Prelude.{IsTrue, ◌↔◌}
use Rattle.std.specs.List.{AllByRecursion, IsDistinct, list_any}
use Rattle.std.specs.Option.{option_and_then}
use Rattle.std.proofs.lemmas.Bool.{cases_lt, false≢true, eqb-true, eqb-false}
use Rattle.std.proofs.lemmas.Option.{none-some, same_Some}
use Rattle.std.proofs.lemmas.List.{get_or-map, get_or_past, get_or-set_other, get_or-set_same, length-map}
use Rattle.std.proofs.lemmas.Map.Steps.{length-le_from_distinct_below}
use Rattle.std.proofs.Math.Nat.{mul-suc, suc-mul, two-pow-succ}
use Rattle.type_check.specs.Chains.{parent_at, climb, LeadsTo, MeetsMark, AreWithin, Circles, AreSteps}

-- a list of numbers that has one twice
record Repeats (xs : List ℕ) : Type 0 where
  first : ℕ
  again : ℕ
  rises : first < again
  within : again < length xs
  same : get_or xs first 0 ≡ get_or xs again 0

later : (x : ℕ) (xs : List ℕ) → Repeats xs → Repeats (x ∷ xs)
later x xs r = record { first = suc r.first; again = suc r.again; rises = omega (arith, r.rises); within = omega (arith, r.within); same = r.same }

-- the number is in the list, or each other differs from it
find : (x : ℕ) (xs : List ℕ) → ((k : ℕ) × (k < length xs) × (get_or xs k 0 ≡ x)) ⊎ AllByRecursion (λ y. eqb x y ≡ false) xs
find x [] = inr tt
find x (y ∷ xs) = by (eqb x y) refl (find x xs)
  where
    by : (b : Bool) → eqb x y ≡ b → ((k : ℕ) × (k < length xs) × (get_or xs k 0 ≡ x)) ⊎ AllByRecursion (λ z. eqb x z ≡ false) xs
        → ((k : ℕ) × (k < length (y ∷ xs)) × (get_or (y ∷ xs) k 0 ≡ x)) ⊎ AllByRecursion (λ z. eqb x z ≡ false) (y ∷ xs)
    by true e rest = inl (0, omega arith, sym (eqb-true x y e))
    by false e (inl found) = inl (suc found.0, omega (arith, found.1), found.2)
    by false e (inr none) = inr (e, none)

distinct_or_repeats : (xs : List ℕ) → IsDistinct eqb xs ⊎ Repeats xs
unfolding IsDistinct
distinct_or_repeats [] = inl tt
distinct_or_repeats (x ∷ xs) = by (find x xs) (distinct_or_repeats xs)
  where
    by : ((k : ℕ) × (k < length xs) × (get_or xs k 0 ≡ x)) ⊎ AllByRecursion (λ y. eqb x y ≡ false) xs → IsDistinct eqb xs ⊎ Repeats xs
        → IsDistinct eqb (x ∷ xs) ⊎ Repeats (x ∷ xs)
    by (inl found) rest = inr (record { first = 0; again = suc found.0; rises = omega arith; within = omega (arith, found.1); same = sym found.2 })
    by (inr none) (inl distinct) = inl (none, distinct)
    by (inr none) (inr r) = inr (later x xs r)

among : (P : ℕ → Type 0) (q : ℕ) (xs : List ℕ) → AllByRecursion P xs → list_any (eqb q) xs ≡ true → P q
among P q [] each h = absurd (false≢true h)
among P q (x ∷ xs) each h = by (eqb q x) refl h (among P q xs each.1)
  where
    by : (b : Bool) → eqb q x ≡ b → (b || list_any (eqb q) xs) ≡ true → (list_any (eqb q) xs ≡ true → P q) → P q
    by true e h rest = subst P (sym (eqb-true q x e)) each.0
    by false e h rest = rest h

-- more numbers than there are below the limit
pigeonhole : (limit : ℕ) (xs : List ℕ) → AllByRecursion (λ x. x < limit) xs → limit < length xs → Repeats xs
pigeonhole limit xs each more = by (distinct_or_repeats xs)
  where
    by : IsDistinct eqb xs ⊎ Repeats xs → Repeats xs
    by (inl distinct) =
        let few = length-le_from_distinct_below xs limit distinct (λ q h. among (λ x. x < limit) q xs each h) in
        absurd (omega (arith, few, more))
    by (inr r) = r

cases_le : (a b : ℕ) → (a ≤ b) ⊎ (b < a)
cases_le a b = by (cases_lt b a)
  where
    by : (b < a) ⊎ (a ≤ b) → (a ≤ b) ⊎ (b < a)
    by (inl less) = inr less
    by (inr more) = inl more

module _ (parents : List (Option ℕ)) where
  climb_behind : (m n : ℕ) → ((p : ℕ) → climb parents (m + n) p ≡ option_and_then (climb parents n) (climb parents m p)) → (p : Option ℕ)
      → option_and_then (climb parents (m + n)) p ≡ option_and_then (climb parents n) (option_and_then (climb parents m) p)
  climb_behind m n rest None = refl
  climb_behind m n rest (Some p) = rest p

  -- so many steps, and then more
  pub climb-more : (m n k : ℕ) → climb parents (m + n) k ≡ option_and_then (climb parents n) (climb parents m k)
  climb-more zero n k = let none : 0 + n ≡ n = omega arith in ap (λ t. climb parents t k) none
  climb-more (suc m) n k =
      let one : suc m + n ≡ suc (m + n) = omega arith in
      ap (λ t. climb parents t k) one ∙ climb_behind m n (climb-more m n) (parent_at parents k)

  -- where a chain stands after fewer steps
  pub below : (m n k x : ℕ) → m ≤ n → climb parents n k ≡ Some x → (y : ℕ) × (climb parents m k ≡ Some y) × (climb parents (n - m) y ≡ Some x)
  below m n k x fewer h =
      let whole : m + (n - m) ≡ n = omega (arith, fewer) in
      by (climb parents m k) refl (sym (climb-more m (n - m) k) ∙ ap (λ t. climb parents t k) whole ∙ h)
    where
      by : (o : Option ℕ) → climb parents m k ≡ o → option_and_then (climb parents (n - m)) (climb parents m k) ≡ Some x → (y : ℕ) × (climb parents m k ≡ Some y) × (climb parents (n - m) y ≡ Some x)
      by None e rest = absurd (none-some x (ap (option_and_then (climb parents (n - m))) (sym e) ∙ rest))
      by (Some y) e rest = (y, e, ap (option_and_then (climb parents (n - m))) (sym e) ∙ rest)

  -- the types that a chain meets
  abbrev nodes_behind : (ℕ → List ℕ) → Option ℕ → List ℕ
  nodes_behind more None = []
  nodes_behind more (Some p) = more p

  abbrev nodes : ℕ → ℕ → List ℕ
  nodes zero k = k ∷ []
  nodes (suc n) k = k ∷ nodes_behind (nodes n) (parent_at parents k)

  length-behind : (n x : ℕ) → ((p : ℕ) → climb parents n p ≡ Some x → length (nodes n p) ≡ suc n) → (p : Option ℕ) → option_and_then (climb parents n) p ≡ Some x → length (nodes_behind (nodes n) p) ≡ suc n
  length-behind n x rest None h = absurd (none-some x h)
  length-behind n x rest (Some p) h = rest p h

  length-nodes : (n k x : ℕ) → climb parents n k ≡ Some x → length (nodes n k) ≡ suc n
  length-nodes zero k x h = refl
  length-nodes (suc n) k x h = ap suc (length-behind n x (λ p. length-nodes n p x) (parent_at parents k) h)

  at_behind : (n i x : ℕ) → ((p : ℕ) → climb parents n p ≡ Some x → climb parents i p ≡ Some (get_or (nodes n p) i 0)) → (p : Option ℕ) → option_and_then (climb parents n) p ≡ Some x
      → option_and_then (climb parents i) p ≡ Some (get_or (nodes_behind (nodes n) p) i 0)
  at_behind n i x rest None h = absurd (none-some x h)
  at_behind n i x rest (Some p) h = rest p h

  at_nodes : (n i k x : ℕ) → i ≤ n → climb parents n k ≡ Some x → climb parents i k ≡ Some (get_or (nodes n k) i 0)
  at_nodes zero zero k x fewer h = refl
  at_nodes zero (suc i) k x fewer h = absurd (omega (arith, fewer))
  at_nodes (suc n) zero k x fewer h = refl
  at_nodes (suc n) (suc i) k x fewer h = at_behind n i x (λ p. at_nodes n i p x (omega (arith, fewer))) (parent_at parents k) h

  -- what lies on the way of a chain that goes round goes round as well
  pub turned : (node m p x : ℕ) → climb parents (suc p) node ≡ Some node → climb parents m node ≡ Some x → climb parents (suc p) x ≡ Some x
  turned node m p x round way =
      let there : climb parents (m + suc p) node ≡ climb parents (suc p) x = climb-more m (suc p) node ∙ ap (option_and_then (climb parents (suc p))) way in
      let first : climb parents (suc p + m) node ≡ Some x = climb-more (suc p) m node ∙ ap (option_and_then (climb parents m)) round ∙ way in
      let order : suc p + m ≡ m + suc p = omega arith in
      sym there ∙ ap (λ t. climb parents t node) (sym order) ∙ first

  -- so often round
  rounds : (k p n : ℕ) → climb parents (suc p) k ≡ Some k → climb parents (n * suc p) k ≡ Some k
  rounds k p zero round = let none : 0 * suc p ≡ 0 = omega arith in ap (λ t. climb parents t k) none
  rounds k p (suc n) round =
      let more : suc n * suc p ≡ suc p + n * suc p = omega (arith, suc-mul n (suc p)) in
      ap (λ t. climb parents t k) more ∙ climb-more (suc p) (n * suc p) k ∙ ap (option_and_then (climb parents (n * suc p))) round ∙ rounds k p n round

  -- a type to which its chain returns stands so many steps above some type
  pub stands_above : (k n : ℕ) → Circles parents k → (j : ℕ) × (climb parents n j ≡ Some k)
  stands_above k n (p, round) =
      let there = below (n * p) (n * suc p) k k (omega (arith, mul-suc n p)) (rounds k p n round) in
      let rest : n * suc p - n * p ≡ n = omega (arith, mul-suc n p) in
      (there.0, ap (λ t. climb parents t there.0) (sym rest) ∙ there.2)

  -- two times as many steps
  pub two_times : (n : ℕ) (steps : List (Option ℕ)) → AreSteps parents n steps → AreSteps parents (n + n) (map (option_and_then (parent_at steps)) steps)
  two_times n steps are = record {
    each = length-map steps (option_and_then (parent_at steps)) ∙ are.each;
    stand = λ k. by k (cases_lt k (length steps));
  }
    where
      behind : (o : Option ℕ) → option_and_then (parent_at steps) o ≡ option_and_then (climb parents n) o
      behind None = refl
      behind (Some p) = are.stand p

      by : (k : ℕ) → (k < length steps) ⊎ (length steps ≤ k) → parent_at (map (option_and_then (parent_at steps)) steps) k ≡ climb parents (n + n) k
      by k (inl less) =
          get_or-map (option_and_then (parent_at steps)) steps k None None less ∙ ap (option_and_then (parent_at steps)) (are.stand k) ∙ behind (climb parents n k) ∙ sym (climb-more n n k)
      by k (inr past) =
          let none : climb parents n k ≡ None = sym (are.stand k) ∙ get_or_past steps k None past in
          get_or_past (map (option_and_then (parent_at steps)) steps) k None (omega (arith, past, length-map steps (option_and_then (parent_at steps))))
          ∙ sym (climb-more n n k ∙ ap (option_and_then (climb parents n)) none)

  module _ (within : AreWithin parents) where
    -- a chain stays among the types
    pub stays : (n j k : ℕ) → j < length parents → climb parents n j ≡ Some k → k < length parents
    stays zero j k less h = omega (arith, less, same_Some _ _ h)
    stays (suc n) j k less h = by (parent_at parents j) refl h (stays n)
      where
        by : (o : Option ℕ) → parent_at parents j ≡ o → option_and_then (climb parents n) o ≡ Some k → ((p q : ℕ) → p < length parents → climb parents n p ≡ Some q → q < length parents) → k < length parents
        by None e h rest = absurd (none-some k h)
        by (Some p) e h rest = rest p k (within j p e) h

    pub steps_within : (n : ℕ) (steps : List (Option ℕ)) → AreSteps parents n steps → AreWithin steps
    steps_within n steps are j k up = by (cases_lt j (length steps))
      where
        by : (j < length steps) ⊎ (length steps ≤ j) → k < length steps
        by (inl less) = omega (arith, are.each, stays n j k (omega (arith, are.each, less)) (sym (are.stand j) ∙ up))
        by (inr past) = absurd (none-some k (sym (get_or_past steps j None past) ∙ up))

    each_behind : (n : ℕ) → ((p : ℕ) → p < length parents → AllByRecursion (λ y. y < length parents) (nodes n p)) → (k : ℕ) (p : Option ℕ) → parent_at parents k ≡ p
        → AllByRecursion (λ y. y < length parents) (nodes_behind (nodes n) p)
    each_behind n rest k None is = tt
    each_behind n rest k (Some p) is = rest p (within k p is)

    each_node : (n k : ℕ) → k < length parents → AllByRecursion (λ y. y < length parents) (nodes n k)
    each_node zero k h = (h, tt)
    each_node (suc n) k h = (h, each_behind n (each_node n) k (parent_at parents k) refl)

    -- a way that is no shorter than there are types can be cut
    module _ (k x : ℕ) (in_range : k < length parents) where
      cut : (n : ℕ) → length parents ≤ n → climb parents n k ≡ Some x → (m : ℕ) × (m < n) × (climb parents m k ≡ Some x)
      cut n long h =
          let size = length parents in
          let start = below size n k x long h in
          let r = pigeonhole size (nodes size k) (each_node size k in_range) (omega (arith, length-nodes size k start.0 start.1)) in
          let fewer : r.again ≤ size = omega (arith, r.within, length-nodes size k start.0 start.1) in
          let rest = below r.again n k x (omega (arith, fewer, long)) h in
          let first = at_nodes size r.first k start.0 (omega (arith, fewer, r.rises)) start.1 in
          let again = at_nodes size r.again k start.0 fewer start.1 in
          let node : get_or (nodes size k) r.first 0 ≡ rest.0 = r.same ∙ same_Some _ _ (sym again ∙ rest.1) in (
            r.first + (n - r.again),
            omega (arith, r.rises, fewer, long),
            climb-more r.first (n - r.again) k ∙ ap (option_and_then (climb parents (n - r.again))) (first ∙ ap (λ (y : ℕ). Some y) node) ∙ rest.2,
          )

      -- behind as many steps as there are types a chain goes round
      pub circles_far : (n : ℕ) → length parents ≤ n → climb parents n k ≡ Some x → Circles parents x
      circles_far n long h =
          let size = length parents in
          let start = below size n k x long h in
          let r = pigeonhole size (nodes size k) (each_node size k in_range) (omega (arith, length-nodes size k start.0 start.1)) in
          let fewer : r.again ≤ size = omega (arith, r.within, length-nodes size k start.0 start.1) in
          let node = get_or (nodes size k) r.first 0 in
          let first : climb parents r.first k ≡ Some node = at_nodes size r.first k start.0 (omega (arith, fewer, r.rises)) start.1 in
          let again : climb parents r.again k ≡ Some node = at_nodes size r.again k start.0 fewer start.1 ∙ ap (λ (y : ℕ). Some y) (sym r.same) in
          let turn = below r.first r.again k node (omega (arith, r.rises)) again in
          let start_same : turn.0 ≡ node = same_Some _ _ (sym turn.1 ∙ first) in
          let one : suc (r.again - suc r.first) ≡ r.again - r.first = omega (arith, r.rises) in
          let round : climb parents (suc (r.again - suc r.first)) node ≡ Some node = ap (λ t. climb parents t node) one ∙ ap (climb parents (r.again - r.first)) (sym start_same) ∙ turn.2 in
          let rest = below r.first n k x (omega (arith, r.rises, fewer, long)) h in
          let rest_same : rest.0 ≡ node = same_Some _ _ (sym rest.1 ∙ first) in
          (r.again - suc r.first, turned node (n - r.first) (r.again - suc r.first) x round (ap (climb parents (n - r.first)) (sym rest_same) ∙ rest.2))

      by_cut : (n : ℕ) → (n < length parents) ⊎ (length parents ≤ n) → climb parents n k ≡ Some x
          → ((m : ℕ) → m < n → climb parents m k ≡ Some x → (q : ℕ) × (q < length parents) × (climb parents q k ≡ Some x))
          → (q : ℕ) × (q < length parents) × (climb parents q k ≡ Some x)
      by_cut n (inl short) h rest = (n, short, h)
      by_cut n (inr long) h rest = let way = cut n long h in rest way.0 way.1 way.2

      shorter : (fuel n : ℕ) → n ≤ fuel → climb parents n k ≡ Some x → (q : ℕ) × (q < length parents) × (climb parents q k ≡ Some x)
      shorter zero n enough h = by_cut n (cases_lt n (length parents)) h (λ m fewer way. absurd (omega (arith, fewer, enough)))
      shorter (suc fuel) n enough h = by_cut n (cases_lt n (length parents)) h (λ m fewer way. shorter fuel m (omega (arith, fewer, enough)) way)

      pub few_steps : LeadsTo parents k x → (q : ℕ) × (q < length parents) × (climb parents q k ≡ Some x)
      few_steps way = shorter way.0 way.0 (omega arith) way.1

  -- one step more
  pub climb-step : (n j k p : ℕ) → climb parents n j ≡ Some k → parent_at parents k ≡ Some p → climb parents (n + 1) j ≡ Some p
  climb-step n j k p h up = climb-more n 1 j ∙ ap (option_and_then (climb parents 1)) h ∙ ap (option_and_then (climb parents 0)) up

  pub climb_past : (n j k : ℕ) → climb parents n j ≡ Some k → parent_at parents k ≡ None → climb parents (n + 1) j ≡ None
  climb_past n j k h up = climb-more n 1 j ∙ ap (option_and_then (climb parents 1)) h ∙ ap (option_and_then (climb parents 0)) up

  -- the second has not been met in so many steps
  module _ (j k : ℕ) where
    abbrev pub IsUnmet : ℕ → Type 0
    IsUnmet n = (m : ℕ) → m < n → climb parents m j ≡ Some k → ⊥

    pub unmet_more : (n x : ℕ) → IsUnmet n → climb parents n j ≡ Some x → (x ≡ k → ⊥) → IsUnmet (n + 1)
    unmet_more n x unmet here differs m fewer h = by (cases_lt m n)
      where
        by : (m < n) ⊎ (n ≤ m) → ⊥
        by (inl before) = unmet m before h
        by (inr now) =
            let same : m ≡ n = omega (arith, now, fewer) in
            differs (same_Some x k (sym here ∙ ap (λ t. climb parents t j) (sym same) ∙ h))

    -- a chain that ended without it does not lead to it
    pub unmet_end : (n x : ℕ) → IsUnmet (n + 1) → climb parents n j ≡ Some x → parent_at parents x ≡ None → LeadsTo parents j k → ⊥
    unmet_end n x unmet here up way = by (cases_lt way.0 (n + 1))
      where
        by : (way.0 < n + 1) ⊎ (n + 1 ≤ way.0) → ⊥
        by (inl before) = unmet way.0 before way.1
        by (inr past) =
            let there = below (n + 1) way.0 j k past way.1 in
            none-some there.0 (sym (climb_past n j x here up) ∙ there.1)

    -- nor does one that had as many steps as there are types
    pub unmet_long : AreWithin parents → j < length parents → IsUnmet (length parents) → LeadsTo parents j k → ⊥
    unmet_long within in_range unmet way = let short = few_steps within j k in_range way in unmet short.0 short.1 short.2

-- one of the first steps leads there
abbrev pub IsReached : List (Option ℕ) → ℕ → ℕ → Type 0
IsReached steps n k = (i : ℕ) × (i < n) × (parent_at steps i ≡ Some k)

module _ (parents : List (Option ℕ)) where
  first_steps : AreSteps parents (2 ^ 0) parents
  first_steps = record { each = refl; stand = λ k. by (parent_at parents k) }
    where
      by : (o : Option ℕ) → o ≡ option_and_then (λ p. Some p) o
      by None = refl
      by (Some p) = refl

  pub more_steps : (n : ℕ) (steps : List (Option ℕ)) → AreSteps parents (2 ^ n) steps → AreSteps parents (2 ^ (n + 1)) (map (option_and_then (parent_at steps)) steps)
  more_steps n steps are =
      let more : 2 ^ n + 2 ^ n ≡ 2 ^ (n + 1) = sym (two-pow-succ n) ∙ ap (λ k. 2 ^ k) (omega arith) in
      subst (λ m. AreSteps parents m (map (option_and_then (parent_at steps)) steps)) more (two_times parents (2 ^ n) steps are)

  pub two_steps : AreSteps parents (2 ^ 1) (map (option_and_then (parent_at parents)) parents)
  two_steps = more_steps 0 parents first_steps

  -- a type that stands far above some type is one to which its chain returns
  pub reached_circles : (n : ℕ) (steps : List (Option ℕ)) → AreWithin parents → length parents ≤ n → AreSteps parents n steps → (k : ℕ) → IsReached steps (length steps) k ↔ Circles parents k
  reached_circles n steps within long are k = (
    λ reached. circles_far parents within reached.0 k (omega (arith, reached.1, are.each)) n long (sym (are.stand reached.0) ∙ reached.2),
    λ circles. by circles (stands_above parents k n circles),
  )
    where
      by : Circles parents k → (j : ℕ) × (climb parents n j ≡ Some k) → IsReached steps (length steps) k
      by circles (j, way) = (j, inside (cases_lt j (length steps)), are.stand j ∙ way)
        where
          inside : (j < length steps) ⊎ (length steps ≤ j) → j < length steps
          inside (inl less) = less
          inside (inr past) = absurd (none-some k (sym (get_or_past steps j None past) ∙ are.stand j ∙ way))

-- one more step, which leads somewhere or nowhere
module _ (steps : List (Option ℕ)) (n : ℕ) where
  pub reached_none : (k : ℕ) → parent_at steps n ≡ None → IsReached steps (n + 1) k → IsReached steps n k
  reached_none k none (i, less, is) = by (cases_lt i n)
    where
      by : (i < n) ⊎ (n ≤ i) → IsReached steps n k
      by (inl fewer) = (i, fewer, is)
      by (inr now) = let same : i ≡ n = omega (arith, now, less) in absurd (none-some k (sym (ap (parent_at steps) same ∙ none) ∙ is))

  pub reached_here : (at k : ℕ) → parent_at steps n ≡ Some at → (k ≡ at → ⊥) → IsReached steps (n + 1) k → IsReached steps n k
  reached_here at k here apart (i, less, is) = by (cases_lt i n)
    where
      by : (i < n) ⊎ (n ≤ i) → IsReached steps n k
      by (inl fewer) = (i, fewer, is)
      by (inr now) = let same : i ≡ n = omega (arith, now, less) in absurd (apart (same_Some k at (sym is ∙ ap (parent_at steps) same ∙ here)))

  pub reached_more : (k : ℕ) → IsReached steps n k → IsReached steps (n + 1) k
  reached_more k (i, less, is) = (i, omega (arith, less), is)

  -- marks of what is reached
  pub marks_none : (marks : List Bool) → parent_at steps n ≡ None → ((k : ℕ) → IsTrue (get_or marks k false) ↔ IsReached steps n k) → (k : ℕ) → IsTrue (get_or marks k false) ↔ IsReached steps (n + 1) k
  marks_none marks none old k = (λ marked. reached_more k ((old k).0 marked), λ reached. (old k).1 (reached_none k none reached))

  pub marks_some : (marks : List Bool) (at : ℕ) → n < length steps → parent_at steps n ≡ Some at → at < length marks → ((k : ℕ) → IsTrue (get_or marks k false) ↔ IsReached steps n k)
      → (k : ℕ) → IsTrue (get_or (set marks at true) k false) ↔ IsReached steps (n + 1) k
  marks_some marks at less here within old k = by (eqb k at) refl
    where
      by : (b : Bool) → eqb k at ≡ b → IsTrue (get_or (set marks at true) k false) ↔ IsReached steps (n + 1) k
      by true e =
          let same : k ≡ at = eqb-true k at e in
          (λ _. (n, omega arith, here ∙ ap (λ (p : ℕ). Some p) (sym same)), λ _. ap (λ p. get_or (set marks at true) p false) same ∙ get_or-set_same marks at true false within)
      by false e =
          let apart : k ≡ at → ⊥ = eqb-false k at e in
          let kept : get_or (set marks at true) k false ≡ get_or marks k false = get_or-set_other marks at k true false apart in
          (λ marked. reached_more k ((old k).0 (sym kept ∙ marked)), λ reached. kept ∙ (old k).1 (reached_here at k here apart reached))

-- a chain that meets no mark
module _ (parents : List (Option ℕ)) (marks : List Bool) where
  abbrev pub IsClear : ℕ → ℕ → Type 0
  IsClear j n = (k : ℕ) → IsTrue (get_or marks k false) → IsUnmet parents j k n

  unmarked : (j k : ℕ) → get_or marks j false ≡ false → IsTrue (get_or marks k false) → j ≡ k → ⊥
  unmarked j k none marked same = false≢true (sym none ∙ ap (λ i. get_or marks i false) same ∙ marked)

  pub clear_more : (j n x : ℕ) → IsClear j n → climb parents n j ≡ Some x → get_or marks x false ≡ false → IsClear j (n + 1)
  clear_more j n x clear here none k marked = unmet_more parents j k n x (clear k marked) here (unmarked x k none marked)

  pub clear_end : (j n x : ℕ) → IsClear j (n + 1) → climb parents n j ≡ Some x → parent_at parents x ≡ None → MeetsMark parents marks j → ⊥
  clear_end j n x clear here up (k, way, marked) = unmet_end parents j k n x (clear k marked) here up way

  pub clear_long : (j : ℕ) → AreWithin parents → j < length parents → IsClear j (length parents) → MeetsMark parents marks j → ⊥
  clear_long j within in_range clear (k, way, marked) = unmet_long parents j k within in_range (clear k marked) way

  -- what is above a type meets what it meets
  pub meets_above : (n j k : ℕ) → climb parents n j ≡ Some k → MeetsMark parents marks k → MeetsMark parents marks j
  meets_above n j k here (x, way, marked) = (x, (n + way.0, climb-more parents n way.0 j ∙ ap (option_and_then (climb parents way.0)) here ∙ way.1), marked)

  -- one more mark, at a type whose chain meets one
  module _ (at : ℕ) (within : at < length marks) (met : MeetsMark parents marks at) where
    pub meets_same : (j : ℕ) → MeetsMark parents (set marks at true) j ↔ MeetsMark parents marks j
    meets_same j = (λ (k, way, marked). by k way marked (eqb k at) refl, λ (k, way, marked). (k, way, kept k marked (eqb k at) refl))
      where
        by : (k : ℕ) → LeadsTo parents j k → IsTrue (get_or (set marks at true) k false) → (b : Bool) → eqb k at ≡ b → MeetsMark parents marks j
        by k way marked true e = meets_above way.0 j at (way.1 ∙ ap (λ (i : ℕ). Some i) (eqb-true k at e)) met
        by k way marked false e = (k, way, sym (get_or-set_other marks at k true false (eqb-false k at e)) ∙ marked)

        kept : (k : ℕ) → IsTrue (get_or marks k false) → (b : Bool) → eqb k at ≡ b → IsTrue (get_or (set marks at true) k false)
        kept k marked true e = ap (λ i. get_or (set marks at true) i false) (eqb-true k at e) ∙ get_or-set_same marks at true false within
        kept k marked false e = get_or-set_other marks at k true false (eqb-false k at e) ∙ marked

  -- where a type is not marked, its parent meets what it meets
  pub meets_on : (j p : ℕ) → get_or marks j false ≡ false → parent_at parents j ≡ Some p → MeetsMark parents marks j → MeetsMark parents marks p
  meets_on j p none up (k, (zero, way), marked) = absurd (unmarked j k none marked (same_Some j k way))
  meets_on j p none up (k, (suc n, way), marked) = (k, (n, ap (option_and_then (climb parents n)) (sym up) ∙ way), marked)
