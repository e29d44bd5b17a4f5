-- The numbers of tuples in dictionary order: with one more place at the end, a tuple's number is
-- multiplied by the length of that place, and the object's place is added.
use Rattle.std.specs.Prelude.{◌≡◌, ℕ, ◌+◌, ◌*◌, ◌/◌, ◌%◌, ◌^◌, ◌<◌, ◌≤◌, List, length, All, Some, slice_get, Contains}
use Rattle.std.specs.List.{flat_map}
use Rattle.std.specs.List.Sorted.{IsBinarySearchResult}
use Rattle.std.specs.Option.{option_map}
use Rattle.std.proofs.Common.{[], ◌∷◌, ◌++◌, suc, zero, map, take, drop, set, get_or, refl, sym, ap, ◌∙◌, subst, inl, inr, arith, lit<, Ok, Err, nat_cmp}
use Rattle.std.proofs.Math.Nat.{pow-suc, pow-le-pow_right}
use Rattle.std.proofs.lemmas.Bool.{cases_lt}
use Rattle.std.proofs.lemmas.Grind.{flat_map-append}
use Rattle.std.proofs.lemmas.List.{append-nil, append_assoc, take_all, drop_all, drop-set, length-map, length-append, length-take, map-append, take_more, get_or-map, get_or_default}
use Rattle.std.proofs.lemmas.List.Elements.{All-head, All-tail, All-take, All-from_recursion}
use Rattle.std.proofs.lemmas.List.Folds.{flat_map-map}
use Rattle.std.proofs.lemmas.List.Sorted.{searched}
use Rattle.std.proofs.lemmas.Nat.{mul-le, div_below, mod_below, div-add-mod'}
use Rattle.std.proofs.lemmas.Option.{slice_get-map, slice_get_within, slice_get-get_or}
use Rattle.grd_base.specs.Rising.{IsRisingBy}
use Rattle.type_check.specs.Ground.{FitPlaces}
use Rattle.ground_all.specs.Tuples.{tuples}
use Rattle.ground_all.specs.Sound.{ArePlaces}
use Rattle.ground_all.proofs.TupleLaws.{with_first}

-- ---- an element of two lists joined

slice_get_left : {X : Type 0} (xs ys : List X) (k : ℕ) → k < length xs → slice_get (xs ++ ys) k ≡ slice_get xs k
slice_get_left [] ys k within = absurd (omega arith)
slice_get_left (x ∷ xs) ys zero within = refl
slice_get_left (x ∷ xs) ys (suc k) within = slice_get_left xs ys k (omega arith)

slice_get_right : {X : Type 0} (xs ys : List X) (k n : ℕ) → n ≡ length xs + k → slice_get (xs ++ ys) n ≡ slice_get ys k
slice_get_right [] ys k n e = ap (slice_get ys) (let is : n ≡ k = omega arith in is)
slice_get_right (x ∷ xs) ys k zero e = absurd (omega arith)
slice_get_right (x ∷ xs) ys k (suc n) e = slice_get_right xs ys k n (omega arith)

-- ---- rows of one length

module _ {X Y : Type 0} (f : X → List Y) (width : ℕ) (each : (x : X) → length (f x) ≡ width) where
  length_rows : (xs : List X) → length (flat_map f xs) ≡ length xs * width
  length_rows [] = omega arith
  length_rows (x ∷ xs) = omega (arith, length-append (f x) (flat_map f xs), each x, length_rows xs)

  row_at : (xs : List X) (row column : ℕ) (x : X) → slice_get xs row ≡ Some x → column < width
      → slice_get (flat_map f xs) (row * width + column) ≡ slice_get (f x) column
  row_at [] row column x there within = cc
  row_at (z ∷ xs) zero column x there within =
      let is : z ≡ x = cc in
      let start : 0 * width + column ≡ column = omega arith in
      rw start (slice_get_left (f z) (flat_map f xs) column (omega (arith, each z)) ∙ ap (λ w. slice_get (f w) column) is)
  row_at (z ∷ xs) (suc row) column x there within =
      slice_get_right (f z) (flat_map f xs) (row * width + column) (suc row * width + column) (omega (arith, each z))
      ∙ row_at xs row column x there within

-- ---- one more place at the end

flat_map_flat_map : {X Y Z : Type 0} (g : Y → List Z) (f : X → List Y) (xs : List X) → flat_map g (flat_map f xs) ≡ flat_map (λ x. flat_map g (f x)) xs
flat_map_flat_map g f [] = refl
flat_map_flat_map g f (x ∷ xs) = flat_map-append g (f x) (flat_map f xs) ∙ ap (λ zs. flat_map g (f x) ++ zs) (flat_map_flat_map g f xs)

map_flat_map : {X Y Z : Type 0} (g : Y → Z) (f : X → List Y) (xs : List X) → map g (flat_map f xs) ≡ flat_map (λ x. map g (f x)) xs
map_flat_map g f [] = refl
map_flat_map g f (x ∷ xs) = map-append g (f x) (flat_map f xs) ∙ ap (λ zs. map g (f x) ++ zs) (map_flat_map g f xs)

same_flat_map : {X Y : Type 0} (f g : X → List Y) → ((x : X) → f x ≡ g x) → (xs : List X) → flat_map f xs ≡ flat_map g xs
same_flat_map f g same [] = refl
same_flat_map f g same (x ∷ xs) = ap (λ ys. ys ++ flat_map f xs) (same x) ∙ ap (λ ys. g x ++ ys) (same_flat_map f g same xs)

map_map : {X Y Z : Type 0} (g : Y → Z) (f : X → Y) (xs : List X) → map g (map f xs) ≡ map (λ x. g (f x)) xs
map_map g f [] = refl
map_map g f (x ∷ xs) = ap (λ zs. g (f x) ∷ zs) (map_map g f xs)

-- the tuple with an object of the place at its end
abbrev with_last : List ℕ → List ℕ → List (List ℕ)
with_last place objects = map (λ k. objects ++ k ∷ []) place

singles : (place : List ℕ) → flat_map (λ k. (k ∷ []) ∷ []) place ≡ with_last place []
singles [] = refl
singles (k ∷ place) = ap (λ rest. (k ∷ []) ∷ rest) (singles place)

push_begun : (rests more : List (List ℕ)) (place : List ℕ) → more ≡ flat_map (with_last place) rests → (k : ℕ) → with_first more k ≡ flat_map (with_last place) (with_first rests k)
push_begun rests more place is k =
    let begin : List ℕ → List ℕ = λ (rest : List ℕ). k ∷ rest in
    ap (map begin) is
    ∙ map_flat_map begin (with_last place) rests
    ∙ same_flat_map (λ objects. map begin (with_last place objects)) (λ objects. with_last place (k ∷ objects)) (λ objects. map_map begin (λ j. objects ++ j ∷ []) place) rests
    ∙ sym (flat_map-map (with_last place) begin rests)

pub tuples_push : (places : List (List ℕ)) (place : List ℕ) → tuples (places ++ place ∷ []) ≡ flat_map (with_last place) (tuples places)
tuples_push [] place = singles place ∙ sym (append-nil (with_last place []))
tuples_push (first ∷ places) place =
    same_flat_map (with_first (tuples (places ++ place ∷ []))) (λ k. flat_map (with_last place) (with_first (tuples places) k))
    (push_begun (tuples places) (tuples (places ++ place ∷ [])) place (tuples_push places place)) first
    ∙ sym (flat_map_flat_map (with_last place) (with_first (tuples places)) first)

-- how many there are
pub length_tuples_push : (places : List (List ℕ)) (place : List ℕ) → length (tuples (places ++ place ∷ [])) ≡ length (tuples places) * length place
length_tuples_push places place = ap length (tuples_push places place) ∙ length_rows (with_last place) (length place) (λ objects. length-map place (λ k. objects ++ k ∷ [])) (tuples places)

-- the number of a tuple with one more object
pub tuple_push : (places : List (List ℕ)) (place : List ℕ) (number at : ℕ) (objects : List ℕ) (k : ℕ) → slice_get (tuples places) number ≡ Some objects → slice_get place at ≡ Some k
    → slice_get (tuples (places ++ place ∷ [])) (number * length place + at) ≡ Some (objects ++ k ∷ [])
tuple_push places place number at objects k there here =
    ap (λ all. slice_get all (number * length place + at)) (tuples_push places place)
    ∙ row_at (with_last place) (length place) (λ objects. length-map place (λ k. objects ++ k ∷ [])) (tuples places) number at objects there (slice_get_within place at k here)
    ∙ slice_get-map (λ k. objects ++ k ∷ []) place at
    ∙ ap (λ found. option_map (λ k. objects ++ k ∷ []) found) here

-- ---- how many there are at most

few_tuples : (places : List (List ℕ)) → All (λ place. length place ≤ 1024) places → length (tuples places) ≤ 1024 ^ length places
few_tuples [] short = omega arith
few_tuples (place ∷ places) short =
    let rows = length_rows (with_first (tuples places)) (length (tuples places)) (λ k. length-map (tuples places) (λ (rest : List ℕ). k ∷ rest)) place in
    let more = mul-le (length place) (length (tuples places)) 1024 (1024 ^ length places) (All-head (λ (place : List ℕ). length place ≤ 1024) place places short) (few_tuples places (All-tail (λ (place : List ℕ). length place ≤ 1024) place places short)) in
    omega (arith, rows, more, pow-suc)

-- so 128 bits are enough
pub tuples_below : (places : List (List ℕ)) → ArePlaces places → (n : ℕ) → length (tuples (take n places)) ≤ 2 ^ 80
tuples_below places are n =
    let some : length (take n places) ≤ 8 = omega (arith, length-take n places, are.few) in
    let most = few_tuples (take n places) (All-take (λ (place : List ℕ). length place ≤ 1024) n places are.short) in
    let highest : 1024 ^ length (take n places) ≤ 1024 ^ 8 = pow-le-pow_right (lit< tt) some in
    omega arith

pub number_below : (places : List (List ℕ)) → ArePlaces places → (n number : ℕ) (objects : List ℕ) → slice_get (tuples (take n places)) number ≡ Some objects → number < 2 ^ 80
number_below places are n number objects there = omega (arith, slice_get_within (tuples (take n places)) number objects there, tuples_below places are n)

-- ---- a search in a place

-- the objects fit one by one
fits_at : (places : List (List ℕ)) (objects : List ℕ) (i : ℕ) (d : List ℕ) (e : ℕ) → FitPlaces places objects → i < length places → Contains (get_or places i d) (get_or objects i e)
fits_at [] objects i d e fit within = absurd (omega arith)
fits_at (place ∷ places) [] i d e fit within = absurd fit
fits_at (place ∷ places) (k ∷ objects) zero d e fit within = fit.0
fits_at (place ∷ places) (k ∷ objects) (suc i) d e fit within = fits_at places objects i d e fit.1 (omega arith)

rises : (place : List ℕ) → IsRisingBy (λ k. k) place → (i j : ℕ) → i ≤ j → j < length place → get_or place i 0 ≤ get_or place j 0
rises [] rise i j le within = absurd (omega arith)
rises (k ∷ place) rise zero zero le within = omega arith
rises (k ∷ place) rise (suc i) zero le within = absurd (omega arith)
rises (k ∷ place) rise zero (suc j) le within = omega (arith, All-from_recursion (λ y. k < y) place rise.0 j 0 (omega arith))
rises (k ∷ place) rise (suc i) (suc j) le within = rises place rise.1 i j (omega arith) (omega arith)

found_at : (place : List ℕ) (k at : ℕ) → IsRisingBy (λ k. k) place → IsBinarySearchResult (λ y. nat_cmp y k) place (Ok at) → slice_get place at ≡ Some k
found_at place k at rise search =
    let found = searched place k (Ok at) search (rises place rise) in
    slice_get-get_or place at 0 found.0 ∙ ap Some found.1

not_found : (place : List ℕ) (k at : ℕ) → IsRisingBy (λ k. k) place → IsBinarySearchResult (λ y. nat_cmp y k) place (Err at) → Contains place k → ⊥
not_found place k at rise search (i, within, is) =
    let apart = searched place k (Err at) search (rises place rise) in
    let there : get_or place i 0 ≡ k = get_or_default place i 0 k within ∙ is in
    elim (cases_lt i at) [ inl less ↦ omega (arith, apart.1 i less) | inr more ↦ omega (arith, apart.2 i more within) ]

-- ---- a tuple from its number

-- the objects from place n on are those of the tuple with the number; those before are the tuple with
-- number rest
pub record IsFilled (places : List (List ℕ)) (number n rest : ℕ) (objects : List ℕ) : Type 0 where
  pub below : rest < length (tuples (take n places))
  pub is : (front : List ℕ) → slice_get (tuples (take n places)) rest ≡ Some front → slice_get (tuples places) number ≡ Some (front ++ drop n objects)

pub filled_none : (places : List (List ℕ)) (number n : ℕ) (objects : List ℕ) → number < length (tuples places) → n ≡ length places → n ≡ length objects → IsFilled places number n number objects
filled_none places number n objects within all long =
    let whole : take n places ≡ places = take_all n places (omega arith) in
    let none : drop n objects ≡ [] = drop_all n objects (omega arith) in
    record {
      below = rw whole within;
      is = λ front there. (rw whole at there) ∙ ap Some (sym (append-nil front) ∙ ap (λ rest. front ++ rest) (sym none));
    }

pub filled_all : (places : List (List ℕ)) (number n rest : ℕ) (objects : List ℕ) → n ≤ 0 → IsFilled places number n rest objects → slice_get (tuples places) number ≡ Some objects
filled_all places number zero rest objects none filled =
    let first : rest ≡ 0 = omega (arith, filled.below) in
    filled.is [] (ap (slice_get ([] ∷ [])) first)
filled_all places number (suc n) rest objects none filled = absurd (omega arith)

some_objects : (fronts size rest : ℕ) → rest < fronts * size → 0 < size
some_objects fronts zero rest below = absurd (omega arith)
some_objects fronts (suc size) rest below = omega arith

-- ---- the next of places that are seen by a function of what holds them

module _ {X : Type 0} (f : X → List ℕ) (xs : List X) (i : ℕ) (x : X) (within : i < length xs) (is : x ≡ get_or xs i x) where
  take_next : take (i + 1) (map f xs) ≡ take i (map f xs) ++ f x ∷ []
  take_next =
      take_more (map f xs) i (f x) (omega (arith, length-map xs f))
      ∙ ap (λ (place : List ℕ). take i (map f xs) ++ place ∷ []) (get_or-map f xs i x (f x) within ∙ ap f (sym is))

  pub count_next : (count size : ℕ) → count ≡ length (tuples (take i (map f xs))) → size ≡ length (f x) → count * size ≡ length (tuples (take (i + 1) (map f xs)))
  count_next count size so_far long =
      ap (λ n. n * size) so_far ∙ ap (λ n. length (tuples (take i (map f xs))) * n) long
      ∙ sym (length_tuples_push (take i (map f xs)) (f x)) ∙ ap (λ places. length (tuples places)) (sym take_next)

  place_here : f x ≡ get_or (map f xs) i (f x)
  place_here = ap f is ∙ sym (get_or-map f xs i x (f x) within)

  module _ (are : ArePlaces (map f xs)) (objects : List ℕ) (k : ℕ) (inside : i < length objects) (here : k ≡ get_or objects i k) where
    place_rises : IsRisingBy (λ k. k) (f x)
    place_rises = subst (IsRisingBy (λ k. k)) (sym place_here) (are.rise i (f x) (omega (arith, length-map xs f)))

    -- one more object of a tuple
    pub number_next : (number size at : ℕ) → slice_get (tuples (take i (map f xs))) number ≡ Some (take i objects) → size ≡ length (f x)
        → (place : List ℕ) → place ≡ f x → IsBinarySearchResult (λ y. nat_cmp y k) place (Ok at)
        → slice_get (tuples (take (i + 1) (map f xs))) (number * size + at) ≡ Some (take (i + 1) objects)
    number_next number size at so_far long place seen search =
        ap (λ places. slice_get (tuples places) (number * size + at)) take_next
        ∙ ap (λ n. slice_get (tuples (take i (map f xs) ++ f x ∷ [])) (number * n + at)) long
        ∙ tuple_push (take i (map f xs)) (f x) number at (take i objects) k so_far (found_at (f x) k at place_rises (subst (λ place. IsBinarySearchResult (λ y. nat_cmp y k) place (Ok at)) seen search))
        ∙ ap Some (ap (λ k. take i objects ++ k ∷ []) here ∙ sym (take_more objects i k inside))

    -- an object that doesn't fit
    pub no_number : (at : ℕ) (place : List ℕ) → place ≡ f x → IsBinarySearchResult (λ y. nat_cmp y k) place (Err at) → FitPlaces (map f xs) objects → ⊥
    no_number at place seen search fit =
        not_found (f x) k at place_rises (subst (λ place. IsBinarySearchResult (λ y. nat_cmp y k) place (Err at)) seen search)
        (subst (λ k. Contains (f x) k) (sym here) (subst (λ place. Contains place (get_or objects i k)) (sym place_here) (fits_at (map f xs) objects i (f x) k fit (omega (arith, length-map xs f)))))

  module _ (number n rest : ℕ) (objects : List ℕ) (more : n ≡ i + 1) (filled : IsFilled (map f xs) number n rest objects) where
    rest_below : rest < length (tuples (take i (map f xs))) * length (f x)
    rest_below = subst (λ count. rest < count) (ap (λ n. length (tuples (take n (map f xs)))) more ∙ ap (λ places. length (tuples places)) take_next ∙ length_tuples_push (take i (map f xs)) (f x)) filled.below

    pub filled_size : (size : ℕ) → size ≡ length (f x) → 0 < size
    filled_size size long = omega (arith, some_objects (length (tuples (take i (map f xs)))) (length (f x)) rest rest_below)

    -- one more object of the tuple
    pub filled_more : (k size : ℕ) → size ≡ length (f x) → i < length objects → k ≡ get_or (f x) (rest % size) k → IsFilled (map f xs) number i (rest / size) (set objects i k)
    filled_more k size long inside here = record {
      below = div_below rest size (length (tuples (take i (map f xs)))) (filled_size size long) (rw long rest_below);
      is = λ front there.
          filled.is (front ++ k ∷ [])
          (ap (λ n. slice_get (tuples (take n (map f xs))) rest) more
          ∙ ap (λ places. slice_get (tuples places) rest) take_next
          ∙ ap (slice_get (tuples (take i (map f xs) ++ f x ∷ []))) (sym (div-add-mod' rest size) ∙ ap (λ n. rest / size * n + rest % size) long)
          ∙ tuple_push (take i (map f xs)) (f x) (rest / size) (rest % size) front k there
          (slice_get-get_or (f x) (rest % size) k (omega (arith, mod_below rest size (filled_size size long))) ∙ ap Some (sym here)))
          ∙ ap Some (append_assoc front (k ∷ []) (drop n objects) ∙ ap (λ n. front ++ k ∷ drop n objects) more ∙ ap (λ rest. front ++ rest) (sym (drop-set objects i k inside)));
    }
