-- The complements of a rising list of atoms: what a binary search finds, and one atom more.
use Rattle.std.proofs.Common.{◌≡◌, ℕ, suc, zero, ◌+◌, ◌<◌, ◌≤◌, Bool, true, false, not, cond, ◌&&◌, ◌||◌, eqb, List, [], ◌∷◌, ◌++◌, length, take, get_or, refl, sym, ◌∙◌, ap, subst, inl, inr, arith, Ok, Err, Less, Equal, Greater, nat_cmp}
use mathlib.Core.Path.{ap₂}
use Rattle.std.specs.Prelude.{Contains, Some, slice_get}
use Rattle.std.specs.Ordering.{ordering_index}
use Rattle.std.specs.List.Sorted.{IsBinarySearchResult}
use Rattle.std.proofs.lemmas.Bool.{cases_lt, eq-eqb, ne_eqb, false≢true}
use Rattle.std.proofs.lemmas.Bool.Decides.{nat_tests}
use Rattle.std.proofs.lemmas.List.{take_more, length-take-le, get_or_default}
use Rattle.std.proofs.lemmas.List.Elements.{All-from_recursion}
use Rattle.std.proofs.lemmas.List.Folds.{list_any-append}
use Rattle.std.proofs.lemmas.Option.{slice_get_within, get_or_from_slice_get, slice_get-get_or}
use Rattle.grd_base.specs.declared.ids.AtomId.{AtomId}
use Rattle.grd_base.specs.Rising.{IsRisingBy}
use Rattle.grd_base.specs.Sets.{minus}
use Rattle.strips_model.specs.Plans.{set_of}
use Rattle.strips_model.specs.Worlds.{places_of}
use Rattle.strips_model.proofs.AtomLists.{number}

-- ---- rising lists

pub rise_at : (xs : List AtomId) → IsRisingBy number xs → (i j : ℕ) (d e : AtomId) → i < j → j < length xs → (get_or xs i d).0 < (get_or xs j e).0
rise_at [] rise i j d e less within = absurd (omega arith)
rise_at (x ∷ xs) rise i zero d e less within = absurd (omega arith)
rise_at (x ∷ xs) rise zero (suc j) d e less within = All-from_recursion (λ y. x.0 < y.0) xs rise.0 j e (omega arith)
rise_at (x ∷ xs) rise (suc i) (suc j) d e less within = rise_at xs rise.1 i j d e (omega arith) (omega arith)

-- no number from an atom on is in front of it
none_before : (xs : List AtomId) → IsRisingBy number xs → (i n : ℕ) (d : AtomId) → i < length xs → (get_or xs i d).0 ≤ n → set_of (take i xs) n ≡ false
none_before [] rise i n d within high = absurd (omega arith)
none_before (x ∷ xs) rise zero n d within high = refl
none_before (x ∷ xs) rise (suc i) n d within high =
    ap₂ ◌||◌ (ne_eqb x.0 n (let less : x.0 < (get_or xs i d).0 = All-from_recursion (λ y. x.0 < y.0) xs rise.0 i d (omega arith) in λ e. absurd (omega arith)))
    (none_before xs rise.1 i n d (omega arith) high)

-- the atoms in front of the next place
set_next : (xs : List AtomId) (i n : ℕ) (d : AtomId) → i < length xs → set_of (take (i + 1) xs) n ≡ (set_of (take i xs) n || eqb (get_or xs i d).0 n)
set_next xs i n d within =
    ap (λ ys. set_of ys n) (take_more xs i d within) ∙ list_any-append (λ a. eqb a.0 n) (take i xs) (get_or xs i d ∷ [])
    ∙ ap (λ b. set_of (take i xs) n || b) (or_false (eqb (get_or xs i d).0 n))
  where
    or_false : (b : Bool) → (b || false) ≡ b
    or_false true = refl
    or_false false = refl

-- ---- a binary search

equal_is : (x y : ℕ) → nat_cmp x y ≡ Equal → x ≡ y
equal_is x y e = grind (arith, nat_tests)

pub found_atom : (xs : List AtomId) (x : AtomId) (i : ℕ) → i < length xs → IsBinarySearchResult (λ y. nat_cmp y.0 x.0) xs (Ok i) → slice_get xs i ≡ Some x
found_atom xs x i within found =
    let same : (get_or xs i x).0 ≡ x.0 = equal_is (get_or xs i x).0 x.0 (found x) in
    slice_get-get_or xs i x within ∙ ap (λ n. let a : AtomId = record { 0 = n } in Some a) same

pub no_atom : (xs : List AtomId) (x : AtomId) (i : ℕ) → IsRisingBy number xs → IsBinarySearchResult (λ y. nat_cmp y.0 x.0) xs (Err i) → Contains xs x → ⊥
no_atom xs x i rise found (k, within, is) =
    let parted = found (λ a b d le lt. higher (get_or xs a d).0 (get_or xs b d).0 (rises a b d le lt)) in
    elim (cases_lt k i) [
      | inl before ↦ below (subst (λ y. nat_cmp y.0 x.0 ≡ Less) is (parted.0 k x (omega arith) before))
      | inr behind ↦ above (subst (λ y. nat_cmp y.0 x.0 ≡ Greater) is (parted.1 k x behind within))
    ]
  where
    higher : (a b : ℕ) → a ≤ b → ordering_index (nat_cmp a x.0) ≤ ordering_index (nat_cmp b x.0)
    higher a b le = grind (arith, nat_tests)

    rises : (a b : ℕ) (d : AtomId) → a ≤ b → b < length xs → (get_or xs a d).0 ≤ (get_or xs b d).0
    rises a b d le lt = elim (cases_lt a b) [
      | inl less ↦ omega (arith, rise_at xs rise a b d d less lt)
      | inr same ↦ let one : a ≡ b = omega arith in omega (arith, ap (λ (n : ℕ). (get_or xs n d).0) one)
    ]

    below : nat_cmp x.0 x.0 ≡ Less → ⊥
    below e = grind (arith, nat_tests)

    above : nat_cmp x.0 x.0 ≡ Greater → ⊥
    above e = grind (arith, nat_tests)

-- ---- the places at which a test passes

module _ {A : Type 0} where
  places_none : (p : A → Bool) (b : ℕ) (xs : List A) → ((j : ℕ) (d : A) → j < length xs → p (get_or xs j d) ≡ false) → places_of p b xs ≡ []
  places_none p b [] none = refl
  places_none p b (x ∷ xs) none =
      ap (λ c. cond c (record { 0 = b } ∷ places_of p (b + 1) xs) (places_of p (b + 1) xs)) (none 0 x (omega arith))
      ∙ places_none p (b + 1) xs (λ j d within. none (suc j) d (omega arith))

  -- tests that agree at the elements of a list
  pub places_same : (p q : A → Bool) (b : ℕ) (xs : List A) → ((j : ℕ) (d : A) → j < length xs → q (get_or xs j d) ≡ p (get_or xs j d)) → places_of q b xs ≡ places_of p b xs
  places_same p q b [] same = refl
  places_same p q b (x ∷ xs) same =
      ap₂ (λ c rest. cond c (record { 0 = b } ∷ rest) rest) (same 0 x (omega arith)) (places_same p q (b + 1) xs (λ j d within. same (suc j) d (omega arith)))

  -- one place more, behind all others
  places_push : (p q : A → Bool) (b k : ℕ) (xs : List A) → k < length xs
      → ((j : ℕ) (d : A) → j < k → q (get_or xs j d) ≡ p (get_or xs j d))
      → ((j : ℕ) (d : A) → k ≤ j → j < length xs → p (get_or xs j d) ≡ false)
      → ((d : A) → q (get_or xs k d) ≡ true)
      → ((j : ℕ) (d : A) → k < j → j < length xs → q (get_or xs j d) ≡ false)
      → places_of q b xs ≡ places_of p b xs ++ record { 0 = b + k } ∷ []
  places_push p q b k [] within same before here behind = absurd (omega arith)
  places_push p q b zero (x ∷ xs) within same before here behind =
      let a : AtomId = record { 0 = b } in
      let first : b ≡ b + 0 = omega arith in
      ap (λ c. cond c (a ∷ places_of q (b + 1) xs) (places_of q (b + 1) xs)) (here x)
      ∙ ap (λ rest. a ∷ rest) (places_none q (b + 1) xs (λ j d lt. behind (suc j) d (omega arith) (omega arith)))
      ∙ ap (λ n. let z : AtomId = record { 0 = n } in z ∷ []) first
      ∙ sym (ap (λ (rest : List AtomId). rest ++ record { 0 = b + 0 } ∷ []) (places_none p b (x ∷ xs) (λ j d lt. before j d (omega arith) lt)))
  places_push p q b (suc k) (x ∷ xs) within same before here behind =
      let a : AtomId = record { 0 = b } in
      let next : (b + 1) + k ≡ b + suc k = omega arith in
      ap₂ (λ c rest. cond c (a ∷ rest) rest) (same 0 x (omega arith))
      (places_push p q (b + 1) k xs (omega arith) (λ j d lt. same (suc j) d (omega arith)) (λ j d le lt. before (suc j) d (omega arith) (omega arith)) here
      (λ j d le lt. behind (suc j) d (omega arith) (omega arith)) ∙ ap (λ n. let z : AtomId = record { 0 = n } in places_of p (b + 1) xs ++ z ∷ []) next)
      ∙ out (p x) a (places_of p (b + 1) xs) (record { 0 = b + suc k })
    where
      out : (c : Bool) (a : AtomId) (rest : List AtomId) (z : AtomId) → cond c (a ∷ (rest ++ z ∷ [])) (rest ++ z ∷ []) ≡ cond c (a ∷ rest) rest ++ z ∷ []
      out true a rest z = refl
      out false a rest z = refl

  places_behind : (p : A → Bool) (b : ℕ) (xs : List A) (x : A) → places_of p b (xs ++ x ∷ []) ≡ places_of p b xs ++ cond (p x) (record { 0 = b + length xs } ∷ []) []
  places_behind p b [] x =
      let first : b ≡ b + 0 = omega arith in
      ap (λ m. let z : AtomId = record { 0 = m } in cond (p x) (z ∷ []) []) first
  places_behind p b (y ∷ xs) x =
      let next : (b + 1) + length xs ≡ b + suc (length xs) = omega arith in
      ap (λ rest. cond (p y) (record { 0 = b } ∷ rest) rest)
      (places_behind p (b + 1) xs x ∙ ap (λ m. let z : AtomId = record { 0 = m } in places_of p (b + 1) xs ++ cond (p x) (z ∷ []) []) next)
      ∙ out (p y) (record { 0 = b }) (places_of p (b + 1) xs) (cond (p x) (record { 0 = b + suc (length xs) } ∷ []) [])
    where
      out : (c : Bool) (a : AtomId) (rest more : List AtomId) → cond c (a ∷ (rest ++ more)) (rest ++ more) ≡ cond c (a ∷ rest) rest ++ more
      out true a rest more = refl
      out false a rest more = refl

  -- the places of a list with one element more
  pub places_next : (p : A → Bool) (xs : List A) (n : ℕ) (d : A) → n < length xs
      → places_of p 0 (take (n + 1) xs) ≡ places_of p 0 (take n xs) ++ cond (p (get_or xs n d)) (record { 0 = n } ∷ []) []
  places_next p xs n d within =
      let many : 0 + length (take n xs) ≡ n = omega (arith, length-take-le n xs (omega arith)) in
      ap (places_of p 0) (take_more xs n d within) ∙ places_behind p 0 (take n xs) (get_or xs n d)
      ∙ ap (λ m. let z : AtomId = record { 0 = m } in places_of p 0 (take n xs) ++ cond (p (get_or xs n d)) (z ∷ []) []) many

-- ---- the complements of one atom more

-- the complements of those of the first atoms that are none of the others: of none at first
abbrev pub complements_to : List AtomId → ℕ → List AtomId → List AtomId → ℕ → List AtomId
complements_to watched fluents list others i = places_of (λ a. minus (set_of (take i list)) (set_of others) a.0) fluents watched

pub complements_none : (watched list others : List AtomId) (fluents : ℕ) → complements_to watched fluents list others 0 ≡ []
complements_none watched list others fluents = places_none _ fluents watched (λ j d within. by (set_of others (get_or watched j d).0))
  where
    by : (o : Bool) → (not o && false) ≡ false
    by true = refl
    by false = refl

module _ (watched list others : List AtomId) (fluents i : ℕ) (x : AtomId) (rises : IsRisingBy number watched) (rise : IsRisingBy number list) (within : i < length list) (is : x ≡ get_or list i x) where
  -- the atom tells nothing of another, nor where it is one of the others
  same_other : (n : ℕ) → (x.0 ≡ n → set_of others n ≡ true) → minus (set_of (take (i + 1) list)) (set_of others) n ≡ minus (set_of (take i list)) (set_of others) n
  same_other n apart =
      ap (λ b. not (set_of others n) && b) (set_next list i n x within ∙ ap (λ y. set_of (take i list) n || eqb y.0 n) (sym is))
      ∙ by (set_of others n) refl (set_of (take i list) n)
    where
      or_false : (b : Bool) → (b || false) ≡ b
      or_false true = refl
      or_false false = refl

      by : (o : Bool) → set_of others n ≡ o → (b : Bool) → (not o && (b || eqb x.0 n)) ≡ (not o && b)
      by true at b = refl
      by false at b = ap (λ c. b || c) (ne_eqb x.0 n (λ e. false≢true (sym at ∙ apart e))) ∙ or_false b

  pub next_unwatched : (Contains watched x → ⊥) → complements_to watched fluents list others (i + 1) ≡ complements_to watched fluents list others i
  next_unwatched none = places_same _ _ fluents watched (λ j d lt. same_other (get_or watched j d).0
      (λ e. absurd (none (j, lt, get_or_default watched j x d lt ∙ ap (λ n. let a : AtomId = record { 0 = n } in a) (sym e)))))

  pub next_other : set_of others x.0 ≡ true → complements_to watched fluents list others (i + 1) ≡ complements_to watched fluents list others i
  next_other has = places_same _ _ fluents watched (λ j d lt. same_other (get_or watched j d).0 (λ e. ap (set_of others) (sym e) ∙ has))

  pub next_watched : (k : ℕ) (complement : AtomId) → slice_get watched k ≡ Some x → complement.0 ≡ fluents + k → set_of others x.0 ≡ false
      → complements_to watched fluents list others (i + 1) ≡ complements_to watched fluents list others i ++ complement ∷ []
  next_watched k complement there numbered lacks =
      places_push _ _ fluents k watched (slice_get_within watched k x there)
      (λ j d lt. same_other (get_or watched j d).0 (λ e. absurd (let less : (get_or watched j d).0 < x.0 = before j d lt in omega arith)))
      (λ j d le lt. gone (get_or watched j d).0 (none_before list rise i (get_or watched j d).0 x within (let high : x.0 ≤ (get_or watched j d).0 = from j d le lt in omega (arith, ap (λ (y : AtomId). y.0) is))))
      (λ d. ap (λ (y : AtomId). minus (set_of (take (i + 1) list)) (set_of others) y.0) (get_or_from_slice_get watched k x d there) ∙ here)
      (λ j d less lt. gone (get_or watched j d).0 (set_next list i (get_or watched j d).0 x within
      ∙ ap₂ ◌||◌ (none_before list rise i (get_or watched j d).0 x within (let high : x.0 < (get_or watched j d).0 = behind j d less lt in omega (arith, ap (λ (y : AtomId). y.0) is)))
      (ne_eqb (get_or list i x).0 (get_or watched j d).0 (λ e. absurd (let high : x.0 < (get_or watched j d).0 = behind j d less lt in omega (arith, ap (λ (y : AtomId). y.0) is))))))
      ∙ ap (λ n. let z : AtomId = record { 0 = n } in complements_to watched fluents list others i ++ z ∷ []) (sym numbered)
    where
      at : (d : AtomId) → (get_or watched k d).0 ≡ x.0
      at d = ap (λ (y : AtomId). y.0) (get_or_from_slice_get watched k x d there)

      before : (j : ℕ) (d : AtomId) → j < k → (get_or watched j d).0 < x.0
      before j d lt = omega (arith, at x, rise_at watched rises j k d x lt (slice_get_within watched k x there))

      behind : (j : ℕ) (d : AtomId) → k < j → j < length watched → x.0 < (get_or watched j d).0
      behind j d lt inside = omega (arith, at x, rise_at watched rises k j x d lt inside)

      from : (j : ℕ) (d : AtomId) → k ≤ j → j < length watched → x.0 ≤ (get_or watched j d).0
      from j d le inside = elim (cases_lt k j) [
        | inl less ↦ omega (arith, behind j d less inside)
        | inr same ↦ let one : k ≡ j = omega arith in omega (arith, at d, ap (λ (n : ℕ). (get_or watched n d).0) one)
      ]

      gone : (n : ℕ) {b : Bool} → b ≡ false → (not (set_of others n) && b) ≡ false
      gone n e = ap (λ b. not (set_of others n) && b) e ∙ by (not (set_of others n))
        where
          by : (o : Bool) → (o && false) ≡ false
          by true = refl
          by false = refl

      here : minus (set_of (take (i + 1) list)) (set_of others) x.0 ≡ true
      here = ap₂ (λ o b. not o && b) lacks (set_next list i x.0 x within ∙ ap (λ b. set_of (take i list) x.0 || b) (eq-eqb (get_or list i x).0 x.0 (ap (λ (y : AtomId). y.0) (sym is))) ∙ or_true (set_of (take i list) x.0))
        where
          or_true : (b : Bool) → (b || true) ≡ true
          or_true true = refl
          or_true false = refl
