-- Lists that stand behind one another, lists of numbered elements, and lists without repeats.
use Rattle.std.proofs.Common.{◌≡◌, ◌≢◌, ℕ, zero, suc, ◌+◌, ◌^◌, ◌<◌, ◌≤◌, List, [], ◌∷◌, ◌++◌, length, map, take, get_or, sum, Option, Some, Contains, refl, sym, ap, ◌∙◌, subst, inl, inr, zero-add, add-zero, arith}
use Rattle.std.proofs.Math.Path.{ap₂}
use Rattle.std.proofs.Math.Nat.{pow-zero, pow-succ'}
use Rattle.std.specs.Prelude.{◌⊎◌, All, AllPairs, slice_get}
use Rattle.std.specs.List.{flat_map}
use Rattle.std.proofs.lemmas.Nat.{mul-le}
use Rattle.std.proofs.lemmas.Option.{none-some, same_Some, slice_get_within, get_or_from_slice_get}
use Rattle.std.proofs.lemmas.List.{length-map}
use Rattle.std.proofs.lemmas.List.Concat.{length-flat_map}
use Rattle.std.proofs.lemmas.List.Elements.{All-head, All-tail, All-weaker, All-append, All-map, Contains-get_or, Contains-append_right, Contains-append_cases}
use Rattle.std.proofs.lemmas.List.Kept.{AllPairs-cons}
use Rattle.std.proofs.lemmas.List.Sums.{sum_by-cons, sum_by-le, sum-map}
use Rattle.pddl_reader.proofs.OnceLaws.{AllPairs-none, AllPairs-head, AllPairs-tail}
use Rattle.ground_all.specs.Tuples.{tuples, numbered}
use Rattle.ground_all.specs.Found.{starts_of}

-- ---- places and members

pub place_member : {X : Type 0} (xs : List X) (i : ℕ) (x : X) → slice_get xs i ≡ Some x → Contains xs x
place_member xs i x h = (i, slice_get_within xs i x h, get_or_from_slice_get xs i x x h)

pub place_within : {X : Type 0} (xs : List X) (i : ℕ) → i < length xs → (x : X) × (slice_get xs i ≡ Some x)
place_within [] i within = absurd (omega arith)
place_within (x ∷ xs) zero within = (x, refl)
place_within (x ∷ xs) (suc i) within = place_within xs i (omega arith)

first_in : {X : Type 0} (x : X) (xs : List X) → Contains (x ∷ xs) x
first_in x xs = place_member (x ∷ xs) 0 x refl

later_in : {X : Type 0} (x y : X) (xs : List X) → Contains xs y → Contains (x ∷ xs) y
later_in x y xs h = Contains-append_right (x ∷ []) xs y h

cases_at : {X : Type 0} (x y : X) (xs : List X) (n : ℕ) → n < length (x ∷ xs) → get_or (x ∷ xs) n y ≡ y → (x ≡ y) ⊎ Contains xs y
cases_at x y xs zero within is = inl is
cases_at x y xs (suc n) within is = inr (n, omega arith, is)

cases_in : {X : Type 0} (x y : X) (xs : List X) → Contains (x ∷ xs) y → (x ≡ y) ⊎ Contains xs y
cases_in x y xs h = cases_at x y xs h.0 h.1 h.2

pub in_map : {X A : Type 0} (g : X → A) (xs : List X) (a : A) → Contains (map g xs) a → (x : X) × Contains xs x × (g x ≡ a)
in_map g [] a h = absurd (omega (arith, h.1))
in_map g (x ∷ xs) a h =
    elim (cases_in (g x) a (map g xs) h) [
      | inl here ↦ (x, first_in x xs, here)
      | inr later ↦ let found = in_map g xs a later in (found.0, later_in x found.0 xs found.1, found.2)
    ]

pub in_flat_map : {X A : Type 0} (f : X → List A) (xs : List X) (a : A) → Contains (flat_map f xs) a → (i : ℕ) × (x : X) × (slice_get xs i ≡ Some x) × Contains (f x) a
in_flat_map f [] a h = absurd (omega (arith, h.1))
in_flat_map f (x ∷ xs) a h =
    elim (Contains-append_cases (f x) (flat_map f xs) a h) [
      | inl here ↦ (0, x, refl, here)
      | inr later ↦ let found = in_flat_map f xs a later in (suc found.0, found.1, found.2, found.3)
    ]

-- ---- numbered elements

pub numbered_at : {X : Type 0} (k : ℕ) (xs : List X) (i : ℕ) (x : X) → slice_get xs i ≡ Some x → slice_get (numbered k xs) i ≡ Some (k + i, x)
numbered_at k [] i x at = absurd (none-some x at)
numbered_at {X} k (y ∷ xs) zero x at =
    let pair : ℕ → X → Option (ℕ × X) = λ n z. Some (n, z) in
    ap₂ pair (sym (add-zero k)) (same_Some y x at)
numbered_at {X} k (y ∷ xs) (suc i) x at =
    let index : (k + 1) + i ≡ k + suc i = omega arith in
    numbered_at (k + 1) xs i x at ∙ ap (λ n. Some (n, x)) index

pub at_numbered : {X : Type 0} (k : ℕ) (xs : List X) (i : ℕ) (p : ℕ × X) → slice_get (numbered k xs) i ≡ Some p → (p.0 ≡ k + i) × (slice_get xs i ≡ Some p.1)
at_numbered {X} k [] i p at = absurd (none-some p at)
at_numbered {X} k (y ∷ xs) zero p at =
    let same : (k, y) ≡ p = same_Some (k, y) p at in
    (sym (ap (λ (q : ℕ × X). q.0) same) ∙ sym (add-zero k), ap (λ (q : ℕ × X). Some q.1) same)
at_numbered k (y ∷ xs) (suc i) p at =
    let later = at_numbered (k + 1) xs i p at in
    let number : p.0 ≡ (k + 1) + i = later.0 in
    (omega arith, later.1)

pub length-numbered : {X : Type 0} (k : ℕ) (xs : List X) → length (numbered k xs) ≡ length xs
length-numbered k [] = refl
length-numbered k (x ∷ xs) = ap suc (length-numbered (k + 1) xs)

-- ---- lists behind one another

pub get_front : {X : Type 0} (front back : List X) (k : ℕ) (x : X) → slice_get front k ≡ Some x → slice_get (front ++ back) k ≡ Some x
get_front [] back k x at = absurd (none-some x at)
get_front (y ∷ front) back zero x at = at
get_front (y ∷ front) back (suc k) x at = get_front front back k x at

pub get_behind : {X : Type 0} (front back : List X) (k : ℕ) (x : X) → slice_get back k ≡ Some x → slice_get (front ++ back) (length front + k) ≡ Some x
get_behind [] back k x at = subst (λ i. slice_get back i ≡ Some x) (sym (zero-add k)) at
get_behind (y ∷ front) back k x at =
    let index : suc (length front + k) ≡ suc (length front) + k = omega arith in
    subst (λ i. slice_get (y ∷ (front ++ back)) i ≡ Some x) index (get_behind front back k x at)

pub item_at : {X : Type 0} (blocks : List (List X)) (n k : ℕ) (block : List X) (x : X) → slice_get blocks n ≡ Some block → slice_get block k ≡ Some x
    → slice_get (flat_map (λ (b : List X). b) blocks) (sum (take n (map length blocks)) + k) ≡ Some x
item_at [] n k block x at within = absurd (none-some block at)
item_at {X} (b ∷ blocks) zero k block x at within =
    let here : slice_get b k ≡ Some x = subst (λ c. slice_get c k ≡ Some x) (sym (same_Some b block at)) within in
    subst (λ i. slice_get (b ++ flat_map (λ (c : List X). c) blocks) i ≡ Some x) (sym (zero-add k)) (get_front b (flat_map (λ (c : List X). c) blocks) k x here)
item_at {X} (b ∷ blocks) (suc n) k block x at within =
    let before = take n (map length blocks) in
    let index : length b + (sum before + k) ≡ sum (length b ∷ before) + k = omega (arith, sum_by-cons (λ (i : ℕ). i) (length b) before) in
    subst (λ i. slice_get (b ++ flat_map (λ (c : List X). c) blocks) i ≡ Some x) index
    (get_behind b (flat_map (λ (c : List X). c) blocks) (sum before + k) x (item_at blocks n k block x at within))

-- the whole is as long as the blocks together
pub length-blocks : {X : Type 0} (blocks : List (List X)) → length (flat_map (λ (b : List X). b) blocks) ≡ sum (map length blocks)
length-blocks {X} blocks = length-flat_map (λ (b : List X). b) blocks ∙ sym (sum-map (λ (b : List X). length b) blocks)

-- ---- first numbers

pub length-starts_of : (k : ℕ) (lengths : List ℕ) → length (starts_of k lengths) ≡ length lengths
length-starts_of k [] = refl
length-starts_of k (n ∷ lengths) = ap suc (length-starts_of (k + n) lengths)

pub start_at : (k : ℕ) (lengths : List ℕ) (i d : ℕ) → i < length lengths → get_or (starts_of k lengths) i d ≡ k + sum (take i lengths)
start_at k [] i d within = absurd (omega arith)
start_at k (n ∷ lengths) zero d within = sym (add-zero k)
start_at k (n ∷ lengths) (suc i) d within =
    omega (arith, start_at (k + n) lengths i d (omega arith), sum_by-cons (λ (j : ℕ). j) n (take i lengths))

-- ---- lists without repeats

module _ {A : Type 0} where
  abbrev pub Differ : List A → Type 0
  Differ xs = AllPairs (λ a b. a ≢ b) xs

  pub differ_append : (xs ys : List A) → Differ xs → Differ ys → ((a : A) → Contains xs a → Contains ys a → ⊥) → Differ (xs ++ ys)
  differ_append [] ys one two apart = two
  differ_append (x ∷ xs) ys one two apart =
      AllPairs-cons (λ a b. a ≢ b) x (xs ++ ys)
      (All-append (λ b. x ≢ b) xs ys (AllPairs-head (λ a b. a ≢ b) x xs one)
      (λ k d within same. apart x (first_in x xs) (subst (Contains ys) (sym same) (Contains-get_or ys k d within))))
      (differ_append xs ys (AllPairs-tail (λ a b. a ≢ b) x xs one) two (λ a h. apart a (later_in x a xs h)))

  pub differ_map : {X : Type 0} (g : X → A) → ((x y : X) → g x ≡ g y → x ≡ y) → (xs : List X) → AllPairs (λ x y. x ≢ y) xs → Differ (map g xs)
  differ_map g one [] h = AllPairs-none (λ a b. a ≢ b)
  differ_map g one (x ∷ xs) h =
      AllPairs-cons (λ a b. a ≢ b) (g x) (map g xs)
      (All-map (λ b. g x ≢ b) g xs (All-weaker (λ y. x ≢ y) (λ y. g x ≢ g y) (λ y ne same. ne (one x y same)) xs (AllPairs-head (λ x y. x ≢ y) x xs h)))
      (differ_map g one xs (AllPairs-tail (λ x y. x ≢ y) x xs h))

  -- blocks of numbered elements, where each element of a block tells the block's number
  module _ {X : Type 0} (f : ℕ × X → List A) (key : A → ℕ) (P : X → Type 0) (told : (n : ℕ) (x : X) (a : A) → Contains (f (n, x)) a → key a ≡ n) (each : (n : ℕ) (x : X) → P x → Differ (f (n, x))) where
    pub differ_numbered : (k : ℕ) (xs : List X) → All P xs → Differ (flat_map f (numbered k xs))
    differ_numbered k [] all = AllPairs-none (λ a b. a ≢ b)
    differ_numbered k (x ∷ xs) all =
        differ_append (f (k, x)) (flat_map f (numbered (k + 1) xs)) (each k x (All-head P x xs all)) (differ_numbered (k + 1) xs (All-tail P x xs all))
        (λ a here later.
        let found = in_flat_map f (numbered (k + 1) xs) a later in
        let number : found.1.0 ≡ (k + 1) + found.0 = (at_numbered (k + 1) xs found.0 found.1 found.2).0 in
        let front : key a ≡ k = told k x a here in
        let back : key a ≡ found.1.0 = told found.1.0 found.1.1 a found.3 in
        omega arith)

-- ---- how many tuples there are at most

pub tuples_few : (most : ℕ) (places : List (List ℕ)) → All (λ place. length place ≤ most) places → length (tuples places) ≤ most ^ length places
tuples_few most [] short = omega (arith, pow-zero most)
tuples_few most (place ∷ places) short =
    let P : List ℕ → Type 0 = λ place. length place ≤ most in
    let rest = tuples_few most places (All-tail P place places short) in
    let f : ℕ → List (List ℕ) = λ k. map (λ (objects : List ℕ). k ∷ objects) (tuples places) in
    let each : All (λ k. length (f k) ≤ most ^ length places) place = λ i d within. omega (arith, length-map (tuples places) (λ (objects : List ℕ). get_or place i d ∷ objects), rest) in
    omega (arith, length-flat_map f place, sum_by-le (λ k. length (f k)) (most ^ length places) place each, mul-le (length place) (most ^ length places) most (most ^ length places) (All-head P place places short) (omega arith), pow-succ' most (length places))
