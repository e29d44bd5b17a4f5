-- Elements of a list by their places.
use Rattle.std.proofs.Common.{◌≡◌, ℕ, zero, suc, ◌+◌, ◌<◌, List, [], ◌∷◌, ◌++◌, length, refl, sym, ap, subst, ◌∙◌, ◌⊎◌, inl, inr, append_assoc, Option, Some, None, arith}
use Rattle.std.specs.Prelude.{slice_get, Contains, All, Any}
use Rattle.std.specs.List.{sum_by, filter_map, cons_option}
use Rattle.std.specs.Map.{values_of}
use Rattle.std.proofs.lemmas.Bool.{cases_lt}
use Rattle.std.proofs.lemmas.List.Elements.{Contains-append_right, Contains-get_or, All-cons, All-nil}
use Rattle.std.proofs.lemmas.List.Sums.{sum_by-cons}
use Rattle.std.proofs.lemmas.Option.{none-some, same_Some, slice_get_within, get_or_from_slice_get}
use Rattle.indexmap.specs.Layout.{set_value_at}
use Rattle.search_core.specs.Progress.{IsGrown}

-- the element at a place within the list
pub some_at : {X : Type 0} (xs : List X) (i : ℕ) → i < length xs → (x : X) × (slice_get xs i ≡ Some x)
some_at [] i within = absurd (omega arith)
some_at (x ∷ xs) zero within = (x, refl)
some_at (x ∷ xs) (suc i) within = some_at xs i (omega arith)

-- the elements of a list that one more was added to
pub get_push_old : {X : Type 0} (xs : List X) (y : X) (i : ℕ) (x : X) → slice_get xs i ≡ Some x → slice_get (xs ++ y ∷ []) i ≡ Some x
get_push_old [] y i x h = absurd (none-some _ h)
get_push_old (z ∷ xs) y zero x h = h
get_push_old (z ∷ xs) y (suc i) x h = get_push_old xs y i x h

pub get_push_new : {X : Type 0} (xs : List X) (y : X) → slice_get (xs ++ y ∷ []) (length xs) ≡ Some y
get_push_new [] y = refl
get_push_new (z ∷ xs) y = get_push_new xs y

pub get_push_cases : {X : Type 0} (xs : List X) (y : X) (i : ℕ) (x : X) → slice_get (xs ++ y ∷ []) i ≡ Some x → (slice_get xs i ≡ Some x) ⊎ ((i ≡ length xs) × (y ≡ x))
get_push_cases [] y zero x h = inr (refl, same_Some _ _ h)
get_push_cases [] y (suc i) x h = absurd (none-some _ h)
get_push_cases (z ∷ xs) y zero x h = inl h
get_push_cases (z ∷ xs) y (suc i) x h = elim (get_push_cases xs y i x h) [ inl k ↦ inl k | inr k ↦ inr (ap suc k.0, k.1) ]

-- the elements of a list that more were added to
get_append : {X : Type 0} (xs ys : List X) (i : ℕ) (x : X) → slice_get xs i ≡ Some x → slice_get (xs ++ ys) i ≡ Some x
get_append [] ys i x h = absurd (none-some _ h)
get_append (z ∷ xs) ys zero x h = h
get_append (z ∷ xs) ys (suc i) x h = get_append xs ys i x h

pub get_grown : {X : Type 0} (xs ys : List X) → IsGrown xs ys → (i : ℕ) (x : X) → slice_get xs i ≡ Some x → slice_get ys i ≡ Some x
get_grown {X} xs ys g i x h = let P : List X → Type 0 = λ zs. slice_get zs i ≡ Some x in subst P (sym g.grown) (get_append xs g.added i x h)

append_nil : {X : Type 0} (xs : List X) → xs ≡ xs ++ []
append_nil [] = refl
append_nil (x ∷ xs) = ap (λ ys. x ∷ ys) (append_nil xs)

pub grown_none : {X : Type 0} (xs : List X) → IsGrown xs xs
grown_none xs = record { added = []; grown = append_nil xs }

pub grown_trans : {X : Type 0} (xs ys zs : List X) → IsGrown xs ys → IsGrown ys zs → IsGrown xs zs
grown_trans xs ys zs a b = record { added = a.added ++ b.added; grown = b.grown ∙ ap (λ us. us ++ b.added) a.grown ∙ append_assoc xs a.added b.added }

pub sum_push : {X : Type 0} (f : X → ℕ) (xs : List X) (y : X) → sum_by f (xs ++ y ∷ []) ≡ sum_by f xs + f y
sum_push f [] y = omega (arith, sum_by-cons f y [])
sum_push f (x ∷ xs) y = omega (arith, sum_by-cons f x (xs ++ y ∷ []), sum_by-cons f x xs, sum_push f xs y)

-- an entry whose value was not set, and one whose value was
pub record WasKept {K V : Type 0} (es : List (K × V)) (i j : ℕ) (f : K × V) : Type 0 where
  pub other : j ≡ i → ⊥
  pub at : slice_get es j ≡ Some f

pub record WasSet {K V : Type 0} (es : List (K × V)) (i : ℕ) (w : V) (j : ℕ) (f : K × V) : Type 0 where
  pub here : j ≡ i
  pub before : K × V
  pub at : slice_get es i ≡ Some before
  pub is : (before.0, w) ≡ f

pub get_set_cases : {K V : Type 0} (es : List (K × V)) (i : ℕ) (w : V) (j : ℕ) (f : K × V) → slice_get (set_value_at es i w) j ≡ Some f → WasKept es i j f ⊎ WasSet es i w j f
get_set_cases [] i w j f at = absurd (none-some _ at)
get_set_cases (e ∷ es) zero w zero f at = inr (record { here = refl; before = e; at = refl; is = same_Some _ _ at })
get_set_cases (e ∷ es) zero w (suc j) f at = inl (record { other = λ h. omega (arith, h); at = at })
get_set_cases (e ∷ es) (suc i) w zero f at = inl (record { other = λ h. omega (arith, h); at = at })
get_set_cases (e ∷ es) (suc i) w (suc j) f at = elim (get_set_cases es i w j f at) [
  | inl k ↦ inl (record { other = λ h. k.other (omega (arith, h)); at = k.at })
  | inr k ↦ inr (record { here = ap suc k.here; before = k.before; at = k.at; is = k.is })
]

pub get_set_here : {K V : Type 0} (es : List (K × V)) (i : ℕ) (w : V) (e : K × V) → slice_get es i ≡ Some e → slice_get (set_value_at es i w) i ≡ Some (e.0, w)
get_set_here [] i w e at = absurd (none-some e at)
get_set_here {K} {V} (x ∷ es) zero w e at = ap (λ (y : K × V). Some (y.0, w)) (same_Some x e at)
get_set_here (x ∷ es) (suc i) w e at = get_set_here es i w e at

pub get_set_other : {K V : Type 0} (es : List (K × V)) (i : ℕ) (w : V) (j : ℕ) (e : K × V) → (j ≡ i → ⊥) → slice_get es j ≡ Some e → slice_get (set_value_at es i w) j ≡ Some e
get_set_other [] i w j e other at = absurd (none-some e at)
get_set_other (x ∷ es) zero w zero e other at = absurd (other refl)
get_set_other (x ∷ es) zero w (suc j) e other at = at
get_set_other (x ∷ es) (suc i) w zero e other at = at
get_set_other (x ∷ es) (suc i) w (suc j) e other at = get_set_other es i w j e (λ h. other (ap suc h)) at

pub sum_set : {K V : Type 0} (f : K × V → ℕ) (es : List (K × V)) (i : ℕ) (w : V) (e : K × V) → slice_get es i ≡ Some e → sum_by f (set_value_at es i w) + f e ≡ sum_by f es + f (e.0, w)
sum_set f [] i w e at = absurd (none-some e at)
sum_set {K} {V} f (x ∷ es) zero w e at =
    let same : x ≡ e = same_Some x e at in
    let a : f x ≡ f e = ap f same in
    let b : f (x.0, w) ≡ f (e.0, w) = ap (λ (y : K × V). f (y.0, w)) same in
    omega (arith, a, b, sum_by-cons f (x.0, w) es, sum_by-cons f x es)
sum_set f (x ∷ es) (suc i) w e at = omega (arith, sum_by-cons f x (set_value_at es i w), sum_by-cons f x es, sum_set f es i w e at)

-- a value that was set to what it was
pub set_same : {K V : Type 0} (es : List (K × V)) (i : ℕ) (e : K × V) → slice_get es i ≡ Some e → set_value_at es i e.1 ≡ es
set_same [] i e at = refl
set_same {K} {V} (x ∷ es) zero e at = let same : e.1 ≡ x.1 = ap (λ (y : K × V). y.1) (sym (same_Some x e at)) in ap (λ (v : V). (x.0, v) ∷ es) same
set_same (x ∷ es) (suc i) e at = ap (λ ys. x ∷ ys) (set_same es i e at)

pub below_cases : (i n : ℕ) → i < n + 1 → (i < n) ⊎ (i ≡ n)
below_cases i n below = elim (cases_lt i n) [ inl lower ↦ inl lower | inr over ↦ inr (omega arith) ]

-- the entry whose value stands at a place
pub value_at : {K V : Type 0} (es : List (K × V)) (i : ℕ) (v : V) → slice_get (values_of es) i ≡ Some v → (k : K) × (slice_get es i ≡ Some (k, v))
value_at [] i v at = absurd (none-some v at)
value_at {K} {V} (e ∷ es) zero v at = (e.0, let same : e.1 ≡ v = same_Some e.1 v at in ap (λ (w : V). Some (e.0, w)) same)
value_at (e ∷ es) (suc i) v at = value_at es i v at

-- a list in two parts, of which the second goes on with an element
pub Contains-next : {X : Type 0} (all done rest more : List X) (x : X) → done ++ rest ≡ all → rest ≡ x ∷ more → Contains all x
Contains-next {X} all done rest more x whole next =
    let P : List X → Type 0 = λ ys. Contains ys x in
    let Q : List X → Type 0 = λ ys. Contains (done ++ ys) x in
    subst P whole (subst Q (sym next) (Contains-append_right done (x ∷ more) x (Contains-get_or (x ∷ more) 0 x (omega arith))))

pub done_next : {X : Type 0} (all done rest more : List X) (x : X) → done ++ rest ≡ all → rest ≡ x ∷ more → (done ++ x ∷ []) ++ more ≡ all
done_next all done rest more x whole next = append_assoc done (x ∷ []) more ∙ ap (λ ys. done ++ ys) (sym next) ∙ whole

-- some element, by its place
pub any_at : {X : Type 0} (P : X → Type 0) (xs : List X) (i : ℕ) (x : X) → slice_get xs i ≡ Some x → P x → Any P xs
any_at P xs i x got h = (i, x, slice_get_within xs i x got, get_or_from_slice_get xs i x x got, h)

-- each element, by the elements of a list that it came from
pub filter_map_get : {X Y : Type 0} (h : X → Option Y) (xs : List X) (i : ℕ) (x : X) (y : Y) → slice_get xs i ≡ Some x → h x ≡ Some y → (k : ℕ) × (slice_get (filter_map h xs) k ≡ Some y)
filter_map_get h [] i x y got is = absurd (none-some x got)
filter_map_get {X} {Y} h (z ∷ xs) zero x y got is = (0, ap (λ o. slice_get (cons_option o (filter_map h xs)) 0) (ap h (same_Some z x got) ∙ is))
filter_map_get h (z ∷ xs) (suc i) x y got is = shift (h z) (filter_map_get h xs i x y got is)
  where
    shift : (o : Option _) → (k : ℕ) × (slice_get (filter_map h xs) k ≡ Some y) → (k : ℕ) × (slice_get (cons_option o (filter_map h xs)) k ≡ Some y)
    shift None r = r
    shift (Some w) r = (suc r.0, r.1)

all_cons_option : {Y : Type 0} (P : Y → Type 0) (o : Option Y) (ys : List Y) → ((y : Y) → o ≡ Some y → P y) → All P ys → All P (cons_option o ys)
all_cons_option P None ys h rest = rest
all_cons_option P (Some y) ys h rest = All-cons P y ys (h y refl) rest

pub filter_map_all : {X Y : Type 0} (h : X → Option Y) (P : Y → Type 0) (xs : List X) → ((i : ℕ) (x : X) (y : Y) → slice_get xs i ≡ Some x → h x ≡ Some y → P y) → All P (filter_map h xs)
filter_map_all h P [] each = All-nil P
filter_map_all h P (x ∷ xs) each = all_cons_option P (h x) (filter_map h xs) (λ y is. each 0 x y refl is) (filter_map_all h P xs (λ i z y got is. each (suc i) z y got is))
