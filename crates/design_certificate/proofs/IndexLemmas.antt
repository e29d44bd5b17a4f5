-- How the index of live rows is made, and how rows are sought in it.
use Rattle.std.proofs.Common.{◌≡◌, ◌↔◌, ℕ, zero, suc, ◌+◌, ◌<◌, ◌≤◌, ◌==◌, ◌&&◌, Bool, true, false, cond, Decides, List, [], ◌∷◌, ◌++◌, length, get_or, refl, sym, ◌∙◌, ap, subst, inl, inr, arith, Option, Some, None, length-append}
use Rattle.std.proofs.Math.Path.{ap₂}
use Rattle.std.specs.Prelude.{IsTrue, IfSome, IsSome, slice_get, Contains, All, Any}
use Rattle.std.specs.List.{IsDistinct}
use Rattle.std.specs.Map.{lookup, keys_of}
use Rattle.std.proofs.lemmas.Bool.{false≢true, cases_lt}
use Rattle.std.proofs.lemmas.Bool.Decides.{Decides-eqb, Decides-and, Decides-like}
use Rattle.std.proofs.lemmas.List.{get_or_append_left}
use Rattle.std.proofs.Math.Seq.{get_or-append_seam}
use Rattle.std.proofs.lemmas.Map.Entries.{place_from_lookup, lookup_from_place}
use Rattle.std.proofs.lemmas.Map.Views.{Contains-keys_from_lookup}
use Rattle.std.proofs.lemmas.Option.{slice_get-get_or, slice_get_within, slice_get_read, get_or_from_slice_get, same_Some}
use Rattle.grd_base.specs.declared.bits.Bits.{Bits}
use Rattle.grd_base.specs.declared.ids.GoalId.{GoalId}
use Rattle.grd_base.specs.Bits.{members, IsWhole}
use Rattle.grd_base.proofs.SameLemmas.{bits_eq, bits_eq-Decides, same_by_members}
use Rattle.strips_model.specs.Plans.{State, set_of}
use Rattle.cost_certificate.proofs.EntryLemmas.{equal_keys}
use Rattle.design_certificate.specs.declared.index.StateAt.{StateAt}
use Rattle.design_certificate.specs.Live.{PlainLiveRow}
use Rattle.design_certificate.specs.Index.{IsAt, HasAll, IsUpTo, IsPlaceAt, IsLast, IsEntry, AreChained, IsIndexed}

-- the number of places that are left
abbrev pub height : Option ℕ → ℕ
height None = 0
height (Some i) = i + 1

-- a row at the place of another one
at_same : (s : State) (d : ℕ) (a b : PlainLiveRow) → IsAt a s d → IsAt b (set_of a.state) a.depth → IsAt b s d
at_same s d a b here there = (there.0 ∙ here.0, there.1 ∙ here.1)

same_at : (s : State) (d : ℕ) (a b : PlainLiveRow) → IsAt a s d → IsAt b s d → IsAt b (set_of a.state) a.depth
same_at s d a b here there = (there.0 ∙ sym here.0, there.1 ∙ sym here.1)

module _ (rows : List PlainLiveRow) where
  pub row_read : (i : ℕ) (row : PlainLiveRow) → i < length rows → row ≡ get_or rows i row → slice_get rows i ≡ Some row
  row_read i row within at = slice_get_read rows (length rows) i row refl within at

  module _ (wanted : List GoalId) (s : State) (d : ℕ) where
    -- the rows of the state and depth behind the place lack one of the goals
    pub record IsSought (next : Option ℕ) : Type 0 where
      pub there : IfSome next (IsPlaceAt rows s d)
      pub others : (j : ℕ) (row : PlainLiveRow) → slice_get rows j ≡ Some row → HasAll wanted s d row → IsUpTo j next

    pub sought_first : (next : Option ℕ) → IsLast rows (length rows) s d next → IsSought next
    sought_first next last = record {
      there = first next last.there;
      others = λ j row at has. last.others j row (slice_get_within rows j row at) at has.0;
    }
      where
        first : (o : Option ℕ) → IfSome o (λ i. (i < length rows) × IsPlaceAt rows s d i) → IfSome o (IsPlaceAt rows s d)
        first None there = there
        first (Some i) there = there.1

    pub sought_next : (i : ℕ) (row : PlainLiveRow) (next : Option ℕ) → slice_get rows i ≡ Some row → IsSought (Some i) → (All (Contains row.goals) wanted → ⊥)
        → IsLast rows i (set_of row.state) row.depth next → IsSought next
    sought_next i row next at sought lacks last = record { there = on next last.there; others = earlier }
      where
        here : IsAt row s d
        here = subst (λ r. IsAt r s d) (same_Some sought.there.0 row (sym sought.there.1 ∙ at)) sought.there.2

        on : (o : Option ℕ) → IfSome o (λ k. (k < i) × IsPlaceAt rows (set_of row.state) row.depth k) → IfSome o (IsPlaceAt rows s d)
        on None there = there
        on (Some k) there = (there.1.0, there.1.1, at_same s d row there.1.0 here there.1.2)

        earlier : (j : ℕ) (other : PlainLiveRow) → slice_get rows j ≡ Some other → HasAll wanted s d other → IsUpTo j next
        earlier j other found has = elim (cases_lt j i) [
          | inl less ↦ last.others j other less found (same_at s d row other here has.0)
          | inr past ↦
              let low : j ≤ i = sought.others j other found has in
              let same : j ≡ i = omega (arith, past, low) in
              let is : other ≡ row = same_Some other row (sym (subst (λ k. slice_get rows k ≡ Some other) same found) ∙ at) in
              absurd (lacks (subst (λ r. All (Contains r.goals) wanted) is has.1))
        ]

    pub sought_none : IsSought None → IsTrue false ↔ Any (HasAll wanted s d) rows
    sought_none sought = (λ h. absurd (false≢true h), λ some. absurd (sought.others some.0 some.1 (row_read some.0 some.1 some.2 (sym some.3)) some.4))

    pub sought_found : (i : ℕ) (row : PlainLiveRow) → slice_get rows i ≡ Some row → IsSought (Some i) → All (Contains row.goals) wanted → IsTrue true ↔ Any (HasAll wanted s d) rows
    sought_found i row at sought has = (
      λ _. (
        i,
        row,
        slice_get_within rows i row at,
        get_or_from_slice_get rows i row row at,
        (subst (λ r. IsAt r s d) (same_Some sought.there.0 row (sym sought.there.1 ∙ at)) sought.there.2, has),
      ),
      λ _. refl,
    )

-- one step of a walk from a place to the one that is chained to it
module _ (rows : List PlainLiveRow) (earlier : List (Option ℕ)) (chained : AreChained rows (length rows) earlier) (next : Option ℕ) (i : ℕ) (row : PlainLiveRow)
    (is : next ≡ Some i) (within : IfSome next (λ k. k < length rows)) (at : row ≡ get_or rows i row) where
  low : i < length rows
  low = subst (λ o. IfSome o (λ k. k < length rows)) is within

  link : IsLast rows i (set_of row.state) row.depth (get_or earlier i None)
  link = chained.chain i row (get_or earlier i None) (row_read rows i row low at) (slice_get-get_or earlier i None (omega (arith, low, chained.each)))

  pub walk_within : IfSome (get_or earlier i None) (λ k. k < length rows)
  walk_within = by (get_or earlier i None) link.there
    where
      by : (o : Option ℕ) → IfSome o (λ k. (k < i) × IsPlaceAt rows (set_of row.state) row.depth k) → IfSome o (λ k. k < length rows)
      by None there = there
      by (Some k) there = omega (arith, there.0, low)

  pub walk_smaller : height (get_or earlier i None) < height next
  walk_smaller = subst (λ o. height (get_or earlier i None) < height o) (sym is) (by (get_or earlier i None) link.there)
    where
      by : (o : Option ℕ) → IfSome o (λ k. (k < i) × IsPlaceAt rows (set_of row.state) row.depth k) → height o < i + 1
      by None there = omega arith
      by (Some k) there = omega (arith, there.0)

  module _ (wanted : List GoalId) (s : State) (d : ℕ) (sought : IsSought rows wanted s d next) where
    pub walk_on : (All (Contains row.goals) wanted → ⊥) → IsSought rows wanted s d (get_or earlier i None)
    walk_on lacks = sought_next rows wanted s d i row (get_or earlier i None) (row_read rows i row low at) (subst (IsSought rows wanted s d) is sought) lacks link

    pub walk_found : All (Contains row.goals) wanted → IsTrue true ↔ Any (HasAll wanted s d) rows
    walk_found has = sought_found rows wanted s d i row (row_read rows i row low at) (subst (IsSought rows wanted s d) is sought) has

-- a map's entries by what a look-up finds
module _ {K : Type 0} (eq : K → K → Bool) (decides : (a b : K) → Decides (eq a b) (a ≡ b)) where
  no_key : {X : Type 0} (k : K) (es : List (K × X)) → lookup (eq k) es ≡ None → Contains (keys_of es) k → ⊥
  no_key k [] miss there = absurd (omega (arith, there.1))
  no_key k (e ∷ es) miss there = by (eq k e.0) refl miss there (λ out here. no_key k es out here)
    where
      by : (b : Bool) → eq k e.0 ≡ b → cond b (Some e.1) (lookup (eq k) es) ≡ None → Contains (e.0 ∷ keys_of es) k → (lookup (eq k) es ≡ None → Contains (keys_of es) k → ⊥) → ⊥
      by true is out here rest = let wrong : Some e.1 ≡ None = out in cc
      by false is out (zero, w, here) rest = false≢true (sym is ∙ (decides k e.0).1 (sym here))
      by false is out (suc i, w, here) rest = rest out (i, omega (arith, w), here)

  pub entry_found : {X : Type 0} (es : List (K × X)) (k : K) (o : Option X) → lookup (eq k) es ≡ o → IsEntry es k o
  entry_found es k (Some x) hit =
      let p = place_from_lookup (eq k) es x hit in
      let is : p.1 ≡ k = sym ((decides k p.1).0 p.3) in
      let at : slice_get es p.0 ≡ Some (k, x) = subst (λ q. slice_get es p.0 ≡ Some (q, x)) is p.2 in
      (p.0, slice_get_within es p.0 (k, x) at, get_or_from_slice_get es p.0 (k, x) (k, x) at)
  entry_found es k None miss = no_key k es miss

  pub entry_looked_up : {X : Type 0} (es : List (K × X)) → IsDistinct eq (keys_of es) → (k : K) (o : Option X) → IsEntry es k o → lookup (eq k) es ≡ o
  entry_looked_up {X = X} es unique k (Some x) (i, within, at) = lookup_from_place (equal_keys eq decides) es i k x unique (slice_get_read es (length es) i (k, x) refl within (sym at))
  entry_looked_up {X = X} es unique k None none = by (lookup (eq k) es) refl
    where
      by : (o : Option X) → lookup (eq k) es ≡ o → o ≡ None
      by None hit = refl
      by (Some x) hit = absurd (none (Contains-keys_from_lookup (λ a b. (decides a b).0) k es (subst IsSome (sym hit) refl)))

-- one more row is indexed
module _ (rows : List PlainLiveRow) (n : ℕ) (row : PlainLiveRow) (at : slice_get rows n ≡ Some row) where
  -- among one row more, it is the last one where it has the state and depth
  last_here : (s : State) (d : ℕ) → IsAt row s d → IsLast rows (n + 1) s d (Some n)
  last_here s d here = record { there = (omega arith, (row, at, here)); others = λ j other less found is. omega (arith, less) }

  -- and else the one before
  last_there : (s : State) (d : ℕ) (place : Option ℕ) → (IsAt row s d → ⊥) → IsLast rows n s d place → IsLast rows (n + 1) s d place
  last_there s d place apart last = record { there = on place last.there; others = others }
    where
      on : (o : Option ℕ) → IfSome o (λ i. (i < n) × IsPlaceAt rows s d i) → IfSome o (λ i. (i < n + 1) × IsPlaceAt rows s d i)
      on None there = there
      on (Some i) there = (omega (arith, there.0), there.1)

      others : (j : ℕ) (other : PlainLiveRow) → j < n + 1 → slice_get rows j ≡ Some other → IsAt other s d → IsUpTo j place
      others j other within found is = elim (cases_lt j n) [
        | inl less ↦ last.others j other less found is
        | inr past ↦
            let same : j ≡ n = omega (arith, within, past) in
            absurd (apart (subst (λ r. IsAt r s d) (same_Some other row (sym (subst (λ i. slice_get rows i ≡ Some other) same found) ∙ at)) is))
      ]

module _ {W : ℕ} where
  -- `==` of two states with their depths
  abbrev pub same_key : StateAt W → StateAt W → Bool
  same_key a b = bits_eq a.state b.state && (a.depth == b.depth)

  pub same_key_is : (a b : StateAt W) → Decides (same_key a b) (a ≡ b)
  same_key_is a b =
      let made : Bits W → ℕ → StateAt W = λ s d. record { state = s; depth = d } in
      Decides-like (same_key a b) (λ e. ap₂ made e.0 e.1) (λ e. (ap (λ (k : StateAt W). k.state) e, ap (λ (k : StateAt W). k.depth) e))
      (Decides-and _ _ (bits_eq-Decides a.state b.state) (Decides-eqb a.depth b.depth))

  module _ (rows : List PlainLiveRow) (n : ℕ) (row : PlainLiveRow) (at : slice_get rows n ≡ Some row) (k : StateAt W) (whole : IsWhole k.state) (state : members k.state ≡ set_of row.state) (depth : k.depth ≡ row.depth) (old new : List (StateAt W × ℕ)) (earlier : List (Option ℕ)) (before : Option ℕ) (m : ℕ) (counted : m ≡ length earlier)
      (was : before ≡ lookup (same_key k) old) (unique : IsDistinct same_key (keys_of new)) (updates : (q : StateAt W) → lookup (same_key q) new ≡ cond (same_key k q) (Some m) (lookup (same_key q) old))
      (indexed : IsIndexed rows n old earlier) where
    known_more : (q : StateAt W) (place : Option ℕ) → IsWhole q.state → IsEntry new q place → IsLast rows (n + 1) (members q.state) q.depth place
    known_more q place whole_q entry = by (same_key k q) refl (sym (subst (λ i. lookup (same_key q) new ≡ cond (same_key k q) (Some i) (lookup (same_key q) old)) (counted ∙ indexed.chained.each) (updates q)) ∙ entry_looked_up same_key same_key_is new unique q place entry)
      where
        by : (b : Bool) → same_key k q ≡ b → cond b (Some n) (lookup (same_key q) old) ≡ place → IsLast rows (n + 1) (members q.state) q.depth place
        by true same is =
            let e : k ≡ q = (same_key_is k q).0 same in
            subst (IsLast rows (n + 1) (members q.state) q.depth) is (last_here rows n row at (members q.state) q.depth
            (subst (λ (x : StateAt W). IsAt row (members x.state) x.depth) e (sym state, sym depth)))
        by false other is =
            last_there rows n row at (members q.state) q.depth place
            (λ here. false≢true (sym other ∙ (same_key_is k q).1
            (let made : Bits W → ℕ → StateAt W = λ s d. record { state = s; depth = d } in ap₂ made (same_by_members k.state q.state whole whole_q (state ∙ here.0)) (depth ∙ here.1))))
            (indexed.known q place whole_q (entry_found same_key same_key_is old q place is))

    chain_more : (i : ℕ) (r : PlainLiveRow) (place : Option ℕ) → slice_get rows i ≡ Some r → slice_get (earlier ++ before ∷ []) i ≡ Some place → IsLast rows i (set_of r.state) r.depth place
    chain_more i r place at_row at_place = elim (cases_lt i n) [
      | inl less ↦
          let low_i : i < length earlier = omega (arith, less, indexed.chained.each) in
          let same : get_or earlier i None ≡ place = sym (get_or_append_left earlier (before ∷ []) None i low_i) ∙ get_or_from_slice_get (earlier ++ before ∷ []) i place None at_place in
          indexed.chained.chain i r place at_row (slice_get-get_or earlier i None low_i ∙ ap (λ (o : Option ℕ). Some o) same)
      | inr past ↦
          let low_i : i < length (earlier ++ before ∷ []) = slice_get_within (earlier ++ before ∷ []) i place at_place in
          let is : i ≡ n = omega (arith, past, low_i, length-append earlier (before ∷ []), indexed.chained.each) in
          let here : r ≡ row = same_Some r row (sym at_row ∙ ap (slice_get rows) is ∙ at) in
          let seam : get_or (earlier ++ before ∷ []) i None ≡ before = ap (λ j. get_or (earlier ++ before ∷ []) j None) (is ∙ sym indexed.chained.each) ∙ get_or-append_seam earlier before [] None in
          let same : before ≡ place = sym seam ∙ get_or_from_slice_get (earlier ++ before ∷ []) i place None at_place in
          let last : IsLast rows n (members k.state) k.depth before = indexed.known k before whole (entry_found same_key same_key_is old k before (sym was)) in
          let at_r : IsLast rows n (set_of row.state) row.depth before = subst (λ d. IsLast rows n (set_of row.state) d before) depth (subst (λ s. IsLast rows n s k.depth before) state last) in
          let there : IsLast rows i (set_of row.state) row.depth place = subst (λ o. IsLast rows i (set_of row.state) row.depth o) same (subst (λ j. IsLast rows j (set_of row.state) row.depth before) (sym is) at_r) in
          subst (λ (x : PlainLiveRow). IsLast rows i (set_of x.state) x.depth place) (sym here) there
    ]

    pub index_more : IsIndexed rows (n + 1) new (earlier ++ before ∷ [])
    index_more = record { known = known_more; chained = record { each = length-append earlier (before ∷ []) ∙ ap (λ m. m + 1) indexed.chained.each; chain = chain_more } }

  -- what a look-up finds is the last row
  module _ (rows : List PlainLiveRow) (entries : List (StateAt W × ℕ)) (earlier : List (Option ℕ)) (indexed : IsIndexed rows (length rows) entries earlier) (k : StateAt W) (whole : IsWhole k.state) (place : Option ℕ)
      (is : place ≡ lookup (same_key k) entries) where
    pub last_found : IsLast rows (length rows) (members k.state) k.depth place
    last_found = indexed.known k place whole (entry_found same_key same_key_is entries k place (sym is))

    pub last_within : IfSome place (λ i. i < length rows)
    last_within = by place last_found.there
      where
        by : (o : Option ℕ) → IfSome o (λ i. (i < length rows) × IsPlaceAt rows (members k.state) k.depth i) → IfSome o (λ i. i < length rows)
        by None there = there
        by (Some i) there = there.0
