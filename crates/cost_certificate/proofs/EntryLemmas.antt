-- The entries of a map whose keys are tested by equality, and elements with a property.
use Rattle.std.proofs.Common.{◌≡◌, zero, suc, Bool, true, false, cond, Decides, List, [], ◌∷◌, ◌++◌, length, refl, sym, ◌∙◌, ap, subst, ◌⊎◌, inl, inr, arith, Some, None}
use Rattle.std.specs.Prelude.{◌↔◌, IsTrue, slice_get, All, Any, Contains}
use Rattle.std.specs.Cmp.{IsEquivalence}
use Rattle.std.specs.List.{IsDistinct}
use Rattle.std.specs.Map.{lookup, keys_of}
use Rattle.std.proofs.lemmas.Bool.Decides.{same_from_decides}
use Rattle.std.proofs.lemmas.List.Elements.{All-nil, All-cons, All-head, All-tail, Contains-append_left}
use Rattle.std.proofs.lemmas.Map.Entries.{place_from_lookup, lookup_from_place}
use Rattle.std.proofs.lemmas.Option.{slice_get_within, slice_get_read, get_or_from_slice_get, same_Some}
use Rattle.indexmap.specs.IndexMap.{insert_entry}

module _ {X : Type 0} where
  -- the first element has the property
  pub Any-here : (P : X → Type 0) (x : X) (xs : List X) → P x → Any P (x ∷ xs)
  Any-here P x xs p = (0, x, omega arith, refl, p)

  -- a later one has it
  pub Any-later : (P : X → Type 0) (x : X) (xs : List X) → Any P xs → Any P (x ∷ xs)
  Any-later P x xs a = (suc a.0, a.1, omega (arith, a.2), a.3, a.4)

  -- the first one or a later one has it
  pub Any-cases : (P : X → Type 0) (x : X) (xs : List X) → Any P (x ∷ xs) → P x ⊎ Any P xs
  Any-cases P x xs (zero, y, within, at, p) = inl (subst P (sym at) p)
  Any-cases P x xs (suc k, y, within, at, p) = inr (k, y, omega (arith, within), at, p)

  -- a weaker property
  pub Any-weaker : (P Q : X → Type 0) (xs : List X) → ((x : X) → P x → Q x) → Any P xs → Any Q xs
  Any-weaker P Q xs f a = (a.0, a.1, a.2, a.3, f a.1 a.4)

  -- a longer list
  pub Any-append_left : (P : X → Type 0) (xs ys : List X) → Any P xs → Any P (xs ++ ys)
  Any-append_left P xs ys a = let c = Contains-append_left xs ys a.1 (a.0, a.2, a.3) in (c.0, a.1, c.1, c.2, a.4)

  -- an element of the list has the property
  pub Any-contains : (P : X → Type 0) (xs : List X) (x : X) → Contains xs x → P x → Any P xs
  Any-contains P xs x c p = (c.0, x, c.1, c.2, p)

module _ {K : Type 0} (eq : K → K → Bool) (decides : (a b : K) → Decides (eq a b) (a ≡ b)) where
  -- the test is an equivalence
  pub equal_keys : IsEquivalence eq
  equal_keys = record {
    refl = λ x. (decides x x).1 refl;
    symm = λ x y. same_from_decides (eq x y) (eq y x) (decides x y) (λ e. sym ((decides y x).0 e), λ e. (decides y x).1 (sym e));
    congr = λ x y z same. ap (λ w. eq w z) ((decides x y).0 same);
  }

  module _ {X : Type 0} (P : X → Type 0) (es : List (K × X)) (k : K) (unique : IsDistinct eq (keys_of es)) where
    -- an entry with the key is what a look-up finds
    found_is : Any (λ e. (e.0 ≡ k) × P e.1) es → (v : X) × (lookup (eq k) es ≡ Some v) × P v
    found_is (i, e, within, at, (is, p)) =
        let place : slice_get es i ≡ Some (e.0, e.1) = slice_get_read es (length es) i e refl within (sym at) in
        (e.1, subst (λ q. lookup (eq q) es ≡ Some e.1) is (lookup_from_place equal_keys es i e.0 e.1 unique place), p)

    -- what holds of the value that a look-up finds holds of an entry with the key, and the other way round
    pub looked_up : (v : X) (b : Bool) → lookup (eq k) es ≡ Some v → (IsTrue b ↔ P v) → IsTrue b ↔ Any (λ e. (e.0 ≡ k) × P e.1) es
    looked_up v b hit tells =
        let p = place_from_lookup (eq k) es v hit in
        let is : p.1 ≡ k = sym ((decides k p.1).0 p.3) in (
          λ yes_b. (p.0, (p.1, v), slice_get_within es p.0 (p.1, v) p.2, get_or_from_slice_get es p.0 (p.1, v) (p.1, v) p.2, (is, tells.0 yes_b)),
          λ some. let f = found_is some in tells.1 (subst P (same_Some f.0 v (sym f.1 ∙ hit)) f.2),
        )

    -- where a look-up fails, no entry has the key
    pub looked_in_vain : lookup (eq k) es ≡ None → Any (λ e. (e.0 ≡ k) × P e.1) es → ⊥
    looked_in_vain miss some = let f = found_is some in let e : Some f.0 ≡ None = sym f.1 ∙ miss in cc

  module _ {X : Type 0} (k : K) (v : X) where
    -- what holds of all entries and of an inserted one
    pub All-insert_entry : (P : K × X → Type 0) (es : List (K × X)) → All P es → P (k, v) → All P (insert_entry eq es k v)
    All-insert_entry P [] all here = All-cons P (k, v) [] here (All-nil P)
    All-insert_entry P (e ∷ es) all here = by (eq k e.0) refl (All-insert_entry P es (All-tail P e es all) here)
      where
        by : (b : Bool) → eq k e.0 ≡ b → All P (insert_entry eq es k v) → All P (cond b ((e.0, v) ∷ es) (e ∷ insert_entry eq es k v))
        by true is rest = All-cons P (e.0, v) es (subst (λ q. P (q, v)) ((decides k e.0).0 is) here) (All-tail P e es all)
        by false is rest = All-cons P e (insert_entry eq es k v) (All-head P e es all) rest

    -- an inserted entry is there
    pub Any-inserted : (P : K × X → Type 0) (es : List (K × X)) → P (k, v) → Any P (insert_entry eq es k v)
    Any-inserted P [] here = Any-here P (k, v) [] here
    Any-inserted P (e ∷ es) here = by (eq k e.0) refl (Any-inserted P es here)
      where
        by : (b : Bool) → eq k e.0 ≡ b → Any P (insert_entry eq es k v) → Any P (cond b ((e.0, v) ∷ es) (e ∷ insert_entry eq es k v))
        by true is rest = Any-here P (e.0, v) es (subst (λ q. P (q, v)) ((decides k e.0).0 is) here)
        by false is rest = Any-later P e (insert_entry eq es k v) rest

    -- an entry stays, or its place is taken by one of its key
    pub Any-insert_entry : (P Q : K × X → Type 0) (es : List (K × X)) → ((e : K × X) → P e → Q e) → ((e : K × X) → e.0 ≡ k → P e → Q (k, v)) → Any P es
        → Any Q (insert_entry eq es k v)
    Any-insert_entry P Q [] stays moves some = absurd (omega (arith, some.2))
    Any-insert_entry P Q (e ∷ es) stays moves some = by (eq k e.0) refl (Any-cases P e es some) (Any-insert_entry P Q es stays moves)
      where
        by : (b : Bool) → eq k e.0 ≡ b → P e ⊎ Any P es → (Any P es → Any Q (insert_entry eq es k v)) → Any Q (cond b ((e.0, v) ∷ es) (e ∷ insert_entry eq es k v))
        by true is (inl p) rest =
            let same : k ≡ e.0 = (decides k e.0).0 is in
            Any-here Q (e.0, v) es (subst (λ q. Q (q, v)) same (moves e (sym same) p))
        by true is (inr later) rest = Any-later Q (e.0, v) es (Any-weaker P Q es stays later)
        by false is (inl p) rest = Any-here Q e (insert_entry eq es k v) (stays e p)
        by false is (inr later) rest = Any-later Q e (insert_entry eq es k v) (rest later)
