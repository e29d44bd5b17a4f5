-- Lists of names: membership, the first place of a name, and each name once.
use Rattle.std.proofs.Common.{◌≡◌, ◌≢◌, ℕ, zero, suc, ◌+◌, ◌<◌, ◌≤◌, Bool, true, false, cond, not, ◌||◌, Decides, List, [], ◌∷◌, ◌++◌, length, get_or, map, filter, take, drop, Option, Some, None, Contains, refl, sym, ap, ◌∙◌, subst, arith, true≢false}
use Rattle.std.specs.List.{AllByRecursion, IsDistinct, list_any}
use Rattle.std.specs.Option.{IfSome, IfNone}
use Rattle.std.specs.Str.{bytes_eq}
use Rattle.std.proofs.lemmas.List.{append_assoc, map_more}
use Rattle.std.proofs.Math.Seq.{take-append_seam}
use Rattle.std.proofs.lemmas.Bool.{false≢true, false_from_ne_true}
use Rattle.std.proofs.lemmas.Bool.Decides.{same_from_decides, Decides-like}
use Rattle.std.proofs.lemmas.Map.Made.{is_member-Decides}
use Rattle.std.proofs.lemmas.Slice.Eq.{bytes_eq-Decides}
use Rattle.type_check.specs.Types.{firsts, place_in}
use Rattle.type_check.specs.Tables.{AddsTo}

pub eq-same : (x y : List ℕ) → bytes_eq x y ≡ true → x ≡ y
eq-same x y = (bytes_eq-Decides x y).0

pub eq-refl : (x : List ℕ) → bytes_eq x x ≡ true
eq-refl x = (bytes_eq-Decides x x).1 refl

pub eq-sym : (x y : List ℕ) → bytes_eq x y ≡ bytes_eq y x
eq-sym x y = same_from_decides _ _ (bytes_eq-Decides x y) (Decides-like _ sym sym (bytes_eq-Decides y x))

pub eq-differs : (x y : List ℕ) → x ≢ y → bytes_eq x y ≡ false
eq-differs x y differs = false_from_ne_true (bytes_eq x y) (λ e. differs (eq-same x y e))

-- whether the name is in the list
abbrev pub has : List (List ℕ) → List ℕ → Bool
has xs y = list_any (bytes_eq y) xs

pub has-Decides : (xs : List (List ℕ)) (y : List ℕ) → Decides (has xs y) (Contains xs y)
has-Decides xs y = is_member-Decides bytes_eq-Decides xs y

pub has-not : (xs : List (List ℕ)) (y : List ℕ) → (Contains xs y → ⊥) → has xs y ≡ false
has-not xs y none = false_from_ne_true (has xs y) (λ e. none ((has-Decides xs y).0 e))

-- each name once
has-filter : (x : List ℕ) (xs : List (List ℕ)) (y : List ℕ) → bytes_eq y x ≡ false → has (filter (λ z. not (bytes_eq x z)) xs) y ≡ has xs y
has-filter x [] y differs = refl
has-filter x (z ∷ xs) y differs = by (bytes_eq x z) refl (has-filter x xs y differs)
  where
    by : (b : Bool) → bytes_eq x z ≡ b → has (filter (λ z. not (bytes_eq x z)) xs) y ≡ has xs y
        → has (cond (not b) (z ∷ filter (λ z. not (bytes_eq x z)) xs) (filter (λ z. not (bytes_eq x z)) xs)) y ≡ has (z ∷ xs) y
    by true e rest =
        let miss : bytes_eq y z ≡ false = ap (bytes_eq y) (sym (eq-same x z e)) ∙ differs in
        rest ∙ sym (ap (λ b. b || has xs y) miss)
    by false e rest = ap (λ b. bytes_eq y z || b) rest

has-firsts : (xs : List (List ℕ)) (y : List ℕ) → has (firsts xs) y ≡ has xs y
has-firsts [] y = refl
has-firsts (x ∷ xs) y = by (bytes_eq y x) refl (has-firsts xs y)
  where
    by : (b : Bool) → bytes_eq y x ≡ b → has (firsts xs) y ≡ has xs y → (b || has (filter (λ z. not (bytes_eq x z)) (firsts xs)) y) ≡ (b || has xs y)
    by true e rest = refl
    by false e rest = has-filter x (firsts xs) y e ∙ rest

pub Contains-firsts : (xs : List (List ℕ)) (y : List ℕ) → Contains xs y → Contains (firsts xs) y
Contains-firsts xs y h = (has-Decides (firsts xs) y).0 (has-firsts xs y ∙ (has-Decides xs y).1 h)

pub Contains-all : (xs : List (List ℕ)) (y : List ℕ) → Contains (firsts xs) y → Contains xs y
Contains-all xs y h = (has-Decides xs y).0 (sym (has-firsts xs y) ∙ (has-Decides (firsts xs) y).1 h)

-- one name more
filter-push : (x : List ℕ) (xs : List (List ℕ)) (y : List ℕ) → filter (λ z. not (bytes_eq x z)) (xs ++ y ∷ []) ≡ filter (λ z. not (bytes_eq x z)) xs ++ cond (bytes_eq x y) [] (y ∷ [])
filter-push x [] y = by (bytes_eq x y)
  where
    by : (b : Bool) → cond (not b) (y ∷ []) [] ≡ cond b [] (y ∷ [])
    by true = refl
    by false = refl
filter-push x (z ∷ xs) y = by (bytes_eq x z) (filter-push x xs y)
  where
    by : (b : Bool) → filter (λ z. not (bytes_eq x z)) (xs ++ y ∷ []) ≡ filter (λ z. not (bytes_eq x z)) xs ++ cond (bytes_eq x y) [] (y ∷ [])
        → cond (not b) (z ∷ filter (λ z. not (bytes_eq x z)) (xs ++ y ∷ [])) (filter (λ z. not (bytes_eq x z)) (xs ++ y ∷ []))
        ≡ cond (not b) (z ∷ filter (λ z. not (bytes_eq x z)) xs) (filter (λ z. not (bytes_eq x z)) xs) ++ cond (bytes_eq x y) [] (y ∷ [])
    by true rest = rest
    by false rest = ap (λ zs. z ∷ zs) rest

append-none : (xs : List (List ℕ)) → xs ++ [] ≡ xs
append-none [] = refl
append-none (x ∷ xs) = ap (λ ys. x ∷ ys) (append-none xs)

pub firsts-push : (xs : List (List ℕ)) (y : List ℕ) → firsts (xs ++ y ∷ []) ≡ cond (has xs y) (firsts xs) (firsts xs ++ y ∷ [])
firsts-push [] y = refl
firsts-push (x ∷ xs) y =
    ap (λ ys. x ∷ filter (λ z. not (bytes_eq x z)) ys) (firsts-push xs y) ∙ by (has xs y) (bytes_eq y x) refl
  where
    by : (there first : Bool) → bytes_eq y x ≡ first
        → x ∷ filter (λ z. not (bytes_eq x z)) (cond there (firsts xs) (firsts xs ++ y ∷ []))
        ≡ cond (first || there) (x ∷ filter (λ z. not (bytes_eq x z)) (firsts xs)) (x ∷ (filter (λ z. not (bytes_eq x z)) (firsts xs) ++ y ∷ []))
    by true true e = refl
    by true false e = refl
    by false true e =
        let gone : cond (bytes_eq x y) [] (y ∷ []) ≡ [] = ap (λ b. cond b [] (y ∷ [])) (eq-sym x y ∙ e) in
        ap (λ ys. x ∷ ys) (filter-push x (firsts xs) y ∙ ap (λ zs. filter (λ z. not (bytes_eq x z)) (firsts xs) ++ zs) gone ∙ append-none (filter (λ z. not (bytes_eq x z)) (firsts xs)))
    by false false e =
        let stays : cond (bytes_eq x y) [] (y ∷ []) ≡ y ∷ [] = ap (λ b. cond b [] (y ∷ [])) (eq-sym x y ∙ e) in
        ap (λ ys. x ∷ ys) (filter-push x (firsts xs) y ∙ ap (λ zs. filter (λ z. not (bytes_eq x z)) (firsts xs) ++ zs) stays)

-- a name that is added to each name once
pub firsts-added : (xs : List (List ℕ)) (old new : List (List ℕ)) (y : List ℕ) (b : Bool) → old ≡ firsts xs → AddsTo old new y b → new ≡ firsts (xs ++ y ∷ [])
firsts-added xs old new y true is h =
    let absent : has xs y ≡ false = has-not xs y (λ there. h.0 (subst (λ names. Contains names y) (sym is) (Contains-firsts xs y there))) in
    h.1 ∙ ap (λ names. names ++ y ∷ []) is ∙ sym (firsts-push xs y ∙ ap (λ b. cond b (firsts xs) (firsts xs ++ y ∷ [])) absent)
firsts-added xs old new y false is h =
    let there : has xs y ≡ true = (has-Decides xs y).1 (Contains-all xs y (subst (λ names. Contains names y) is h.0)) in
    h.1 ∙ is ∙ sym (firsts-push xs y ∙ ap (λ b. cond b (firsts xs) (firsts xs ++ y ∷ [])) there)

-- no name twice
pub each-filter : {X : Type 0} (P : X → Type 0) (p : X → Bool) (xs : List X) → AllByRecursion P xs → AllByRecursion P (filter p xs)
each-filter P p [] h = tt
each-filter P p (x ∷ xs) h = by (p x) (each-filter P p xs h.1)
  where
    by : (b : Bool) → AllByRecursion P (filter p xs) → AllByRecursion P (cond b (x ∷ filter p xs) (filter p xs))
    by true rest = (h.0, rest)
    by false rest = rest

each-differs : (x : List ℕ) (xs : List (List ℕ)) → AllByRecursion (λ y. bytes_eq x y ≡ false) (filter (λ z. not (bytes_eq x z)) xs)
each-differs x [] = tt
each-differs x (y ∷ xs) = by (bytes_eq x y) refl (each-differs x xs)
  where
    by : (b : Bool) → bytes_eq x y ≡ b → AllByRecursion (λ z. bytes_eq x z ≡ false) (filter (λ z. not (bytes_eq x z)) xs)
        → AllByRecursion (λ z. bytes_eq x z ≡ false) (cond (not b) (y ∷ filter (λ z. not (bytes_eq x z)) xs) (filter (λ z. not (bytes_eq x z)) xs))
    by true e rest = rest
    by false e rest = (e, rest)

distinct-filter : (p : List ℕ → Bool) (xs : List (List ℕ)) → IsDistinct bytes_eq xs → IsDistinct bytes_eq (filter p xs)
unfolding IsDistinct
distinct-filter p [] h = tt
distinct-filter p (x ∷ xs) h = by (p x) (distinct-filter p xs h.1)
  where
    by : (b : Bool) → IsDistinct bytes_eq (filter p xs) → IsDistinct bytes_eq (cond b (x ∷ filter p xs) (filter p xs))
    by true rest = (each-filter (λ y. bytes_eq x y ≡ false) p xs h.0, rest)
    by false rest = rest

pub distinct-firsts : (xs : List (List ℕ)) → IsDistinct bytes_eq (firsts xs)
unfolding IsDistinct
distinct-firsts [] = tt
distinct-firsts (x ∷ xs) = (each-differs x (firsts xs), distinct-filter (λ z. not (bytes_eq x z)) (firsts xs) (distinct-firsts xs))

length-filtered : (p : List ℕ → Bool) (xs : List (List ℕ)) → length (filter p xs) ≤ length xs
length-filtered p [] = omega arith
length-filtered p (x ∷ xs) = by (p x) (length-filtered p xs)
  where
    by : (b : Bool) → length (filter p xs) ≤ length xs → length (cond b (x ∷ filter p xs) (filter p xs)) ≤ length (x ∷ xs)
    by true rest = omega (arith, rest)
    by false rest = omega (arith, rest)

pub length-firsts : (xs : List (List ℕ)) → length (firsts xs) ≤ length xs
length-firsts [] = omega arith
length-firsts (x ∷ xs) = omega (arith, length-firsts xs, length-filtered (λ z. not (bytes_eq x z)) (firsts xs))

-- the first place of a name
pub place-within : (xs : List (List ℕ)) (y : List ℕ) → has xs y ≡ true → place_in xs y < length xs
place-within [] y h = absurd (false≢true h)
place-within (x ∷ xs) y h = by (bytes_eq x y) refl (place-within xs y)
  where
    by : (b : Bool) → bytes_eq x y ≡ b → (has xs y ≡ true → place_in xs y < length xs) → cond b 0 (suc (place_in xs y)) < length (x ∷ xs)
    by true e rest = omega arith
    by false e rest = omega (arith, rest (sym (ap (λ b. b || has xs y) (eq-sym y x ∙ e)) ∙ h))

pub place-past : (xs : List (List ℕ)) (y : List ℕ) → has xs y ≡ false → place_in xs y ≡ length xs
place-past [] y h = refl
place-past (x ∷ xs) y h = by (bytes_eq y x) refl h (place-past xs y)
  where
    by : (b : Bool) → bytes_eq y x ≡ b → (b || has xs y) ≡ false → (has xs y ≡ false → place_in xs y ≡ length xs) → cond (bytes_eq x y) 0 (suc (place_in xs y)) ≡ length (x ∷ xs)
    by true e h rest = absurd (true≢false h)
    by false e h rest = ap (λ b. cond b 0 (suc (place_in xs y))) (eq-sym x y ∙ e) ∙ ap suc (rest h)

pub place-read : (xs : List (List ℕ)) (y d : List ℕ) → has xs y ≡ true → get_or xs (place_in xs y) d ≡ y
place-read [] y d h = absurd (false≢true h)
place-read (x ∷ xs) y d h = by (bytes_eq x y) refl (place-read xs y d)
  where
    by : (b : Bool) → bytes_eq x y ≡ b → (has xs y ≡ true → get_or xs (place_in xs y) d ≡ y) → get_or (x ∷ xs) (cond b 0 (suc (place_in xs y))) d ≡ y
    by true e rest = eq-same x y e
    by false e rest = rest (sym (ap (λ b. b || has xs y) (eq-sym y x ∙ e)) ∙ h)

-- names of one place are the same
pub place-same : (xs : List (List ℕ)) (y z : List ℕ) → Contains xs y → Contains xs z → place_in xs y ≡ place_in xs z → y ≡ z
place-same xs y z has_y has_z same =
    sym (place-read xs y [] ((has-Decides xs y).1 has_y)) ∙ ap (λ k. get_or xs k []) same ∙ place-read xs z [] ((has-Decides xs z).1 has_z)

pub place-below : (xs : List (List ℕ)) (y : List ℕ) → Contains xs y → place_in xs y < length xs
place-below xs y h = place-within xs y ((has-Decides xs y).1 h)

each-at : (P : List ℕ → Type 0) (xs : List (List ℕ)) (k : ℕ) (d : List ℕ) → AllByRecursion P xs → k < length xs → P (get_or xs k d)
each-at P [] k d h less = absurd (omega (arith, less))
each-at P (x ∷ xs) zero d h less = h.0
each-at P (x ∷ xs) (suc k) d h less = each-at P xs k d h.1 (omega (arith, less))

-- where no name comes twice, each has its own place
pub place-at : (xs : List (List ℕ)) (k : ℕ) (d : List ℕ) → IsDistinct bytes_eq xs → k < length xs → place_in xs (get_or xs k d) ≡ k
unfolding IsDistinct
place-at [] k d h less = absurd (omega (arith, less))
place-at (x ∷ xs) zero d h less = ap (λ b. cond b 0 (suc (place_in xs x))) (eq-refl x)
place-at (x ∷ xs) (suc k) d h less =
    let shorter : k < length xs = omega (arith, less) in
    ap (λ b. cond b 0 (suc (place_in xs (get_or xs k d)))) (each-at (λ y. bytes_eq x y ≡ false) xs k d h.0 shorter) ∙ ap suc (place-at xs k d h.1 shorter)

-- a list that was lent whole
pub written_back : {X : Type 0} (old new : List X) (n : ℕ) → n ≡ length old → length new ≡ length old → take n (new ++ drop (length new) old) ≡ new
written_back old new n all same =
    ap (λ k. take k (new ++ drop (length new) old)) (all ∙ sym same) ∙ take-append_seam new (drop (length new) old)

-- the name of the next item
pub firsts_next : {X : Type 0} (name : X → List ℕ) (front : List (List ℕ)) (xs : List X) (i : ℕ) (x : X) → i < length xs → x ≡ get_or xs i x
    → (old new : List (List ℕ)) (b : Bool) → old ≡ firsts (front ++ map name (take i xs)) → AddsTo old new (name x) b → new ≡ firsts (front ++ map name (take (i + 1) xs))
firsts_next name front xs i x within is old new b before adds =
    let more : map name (take (i + 1) xs) ≡ map name (take i xs) ++ name x ∷ [] = map_more name xs i x within ∙ ap (λ y. map name (take i xs) ++ name y ∷ []) (sym is) in
    firsts-added (front ++ map name (take i xs)) old new (name x) b before adds
    ∙ ap firsts (append_assoc front (map name (take i xs)) (name x ∷ []) ∙ ap (λ ys. front ++ ys) (sym more))

-- the place of a name that is there
pub found_place : (names : List (List ℕ)) (t : List ℕ) (r : Option ℕ) → IfSome r (λ k. k ≡ place_in names t) → IfNone r (Contains names t → ⊥) → Contains names t → r ≡ Some (place_in names t)
found_place names t None found none known = absurd (none known)
found_place names t (Some k) found none known = ap (λ (n : ℕ). Some n) found

-- an item of a list
pub item_known : {X : Type 0} (xs ys : List X) (i : ℕ) (x : X) → xs ≡ ys → i < length xs → x ≡ get_or xs i x → Contains ys x
item_known xs ys i x same less is = subst (λ zs. Contains zs x) same (i, less, sym is)

pub differ_from_not : (x y : List ℕ) → true ≡ not (bytes_eq x y) → x ≡ y → ⊥
differ_from_not x y differ same =
    let equal : bytes_eq x y ≡ true = ap (λ z. bytes_eq z y) same ∙ eq-refl y in
    true≢false (differ ∙ ap not equal)

pub same_from_not : (x y : List ℕ) → false ≡ not (bytes_eq x y) → x ≡ y
same_from_not x y = by (bytes_eq x y) refl
  where
    by : (b : Bool) → bytes_eq x y ≡ b → false ≡ not b → x ≡ y
    by true e h = eq-same x y e
    by false e h = absurd (false≢true h)

-- a name that was not new, and one that was
pub was_there : (old names new : List (List ℕ)) (t u : List ℕ) (b : Bool) → old ≡ names → t ≡ u → AddsTo old new t b → b ≡ false → Contains names u
was_there old names new t u true is same h e = absurd (true≢false e)
was_there old names new t u false is same h e = subst (Contains names) same (subst (λ ns. Contains ns t) is h.0)

pub was_new : (old names new : List (List ℕ)) (t u : List ℕ) (b : Bool) → old ≡ names → t ≡ u → AddsTo old new t b → b ≡ true → Contains names u → ⊥
was_new old names new t u false is same h e there = true≢false (sym e)
was_new old names new t u true is same h e there = h.0 (subst (λ ns. Contains ns t) (sym is) (subst (Contains names) (sym same) there))
