-- The numbers of the objects that fit a place, as far as the objects are known.
use Rattle.std.proofs.Common.{◌≡◌, ℕ, ◌<◌, List, [], ◌∷◌, ◌++◌, length, zero, suc, Some, refl, sym, ap, ◌∙◌, subst, inl, inr, arith}
use Rattle.std.specs.Prelude.{◌⊎◌, ◌↔◌, Any, Contains, slice_get}
use Rattle.std.specs.List.{AllByRecursion}
use Rattle.std.proofs.lemmas.Option.{none-some, same_Some, slice_get_within}
use Rattle.std.proofs.lemmas.List.Elements.{Contains-push, Contains-push_cases, Contains-append_left, Contains-append_right}
use Rattle.grd_base.specs.Rising.{IsRisingBy}
use Rattle.pddl_reader.specs.Forms.{Word}
use Rattle.pddl_reader.specs.Values.{PlainTypedName, PlainDomain, PlainProblem}
use Rattle.type_check.specs.Types.{texts, type_of, LiesUnder}
use Rattle.type_check.specs.Rules.{all_objects}
use Rattle.type_check.specs.Typing.{IsPlace}

-- ---- one more number at the end of a rising list

all_push : (P : ℕ → Type 0) (xs : List ℕ) (n : ℕ) → AllByRecursion P xs → P n → AllByRecursion P (xs ++ n ∷ [])
all_push P [] n h p = (p, tt)
all_push P (x ∷ xs) n h p = (h.0, all_push P xs n h.1 p)

rising_push : (xs : List ℕ) (n : ℕ) → IsRisingBy (λ k. k) xs → ((k : ℕ) → Contains xs k → k < n) → IsRisingBy (λ k. k) (xs ++ n ∷ [])
rising_push [] n rises below = (tt, tt)
rising_push (x ∷ xs) n rises below =
    (all_push (λ k. x < k) xs n rises.0 (below x (0, omega arith, refl)), rising_push xs n rises.1 (λ k h. below k (Contains-append_right (x ∷ []) xs k h)))

-- ---- one more object at the end of a list

old_at : {X : Type 0} (xs : List X) (y : X) (k : ℕ) (x : X) → slice_get xs k ≡ Some x → slice_get (xs ++ y ∷ []) k ≡ Some x
old_at [] y k x e = absurd (none-some x e)
old_at (z ∷ xs) y zero x e = e
old_at (z ∷ xs) y (suc k) x e = old_at xs y k x e

new_at : {X : Type 0} (xs : List X) (y : X) → slice_get (xs ++ y ∷ []) (length xs) ≡ Some y
new_at [] y = refl
new_at (z ∷ xs) y = new_at xs y

cases_at : {X : Type 0} (xs : List X) (y : X) (k : ℕ) (x : X) → slice_get (xs ++ y ∷ []) k ≡ Some x → (slice_get xs k ≡ Some x) ⊎ ((length xs ≡ k) × (y ≡ x))
cases_at [] y zero x e = inr (refl, same_Some y x e)
cases_at [] y (suc k) x e = absurd (none-some x e)
cases_at (z ∷ xs) y zero x e = inl e
cases_at (z ∷ xs) y (suc k) x e = elim (cases_at xs y k x e) [ inl old ↦ inl old | inr new ↦ inr (ap suc new.0, new.1) ]

-- ---- the place of the first objects

-- the object fits a place of the types
abbrev pub Fit : PlainDomain → List Word → PlainTypedName → Type 0
Fit d types o = Any (LiesUnder d (type_of o)) (texts types)

abbrev pub FitAt : PlainDomain → List Word → List PlainTypedName → ℕ → Type 0
FitAt d types objects k = (o : PlainTypedName) × (slice_get objects k ≡ Some o) × Any (LiesUnder d (type_of o)) (texts types)

pub record HasPlace (d : PlainDomain) (types : List Word) (objects : List PlainTypedName) (place : List ℕ) : Type 0 where
  pub rises : IsRisingBy (λ k. k) place
  pub fit : (k : ℕ) → Contains place k ↔ FitAt d types objects k

module _ (d : PlainDomain) (types : List Word) where
  module _ (objects : List PlainTypedName) (o : PlainTypedName) (place : List ℕ) (has : HasPlace d types objects place) where
    below : (k : ℕ) → Contains place k → k < length objects
    below k h = let at = (has.fit k).0 h in slice_get_within objects k at.0 at.1

    old_fit : (k : ℕ) → FitAt d types objects k → FitAt d types (objects ++ o ∷ []) k
    old_fit k h = (h.0, old_at objects o k h.0 h.1, h.2)

    new_fit : (k : ℕ) → length objects ≡ k → Fit d types o → FitAt d types (objects ++ o ∷ []) k
    new_fit k same fits = (o, subst (λ n. slice_get (objects ++ o ∷ []) n ≡ Some o) same (new_at objects o), fits)

    fit_cases : (k : ℕ) → FitAt d types (objects ++ o ∷ []) k → Contains place k ⊎ ((length objects ≡ k) × Fit d types o)
    fit_cases k h =
        elim (cases_at objects o k h.0 h.1) [
          | inl old ↦ inl ((has.fit k).1 (h.0, old, h.2))
          | inr new ↦ inr (new.0, subst (Fit d types) (sym new.1) h.2)
        ]

    pub place_with : Fit d types o → HasPlace d types (objects ++ o ∷ []) (place ++ length objects ∷ [])
    place_with fits = record {
      rises = rising_push place (length objects) has.rises below;
      fit = λ k. (
        λ h. elim (Contains-push_cases place (length objects) k h) [ inl old ↦ old_fit k ((has.fit k).0 old) | inr new ↦ new_fit k new fits ],
        λ h. elim (fit_cases k h) [
          | inl old ↦ Contains-append_left place (length objects ∷ []) k old
          | inr new ↦ subst (λ n. Contains (place ++ length objects ∷ []) n) new.0 (Contains-push place (length objects))
        ],
      );
    }

    pub place_without : (Fit d types o → ⊥) → HasPlace d types (objects ++ o ∷ []) place
    place_without fits = record {
      rises = has.rises;
      fit = λ k. (λ h. old_fit k ((has.fit k).0 h), λ h. elim (fit_cases k h) [ inl old ↦ old | inr new ↦ absurd (fits new.1) ]);
    }

-- ---- a turn of the walk over the objects

module _ (d e : PlainDomain) (types others : List Word) (same_domain : e ≡ d) (same_types : others ≡ types) (objects next : List PlainTypedName) (o : PlainTypedName) (more : next ≡ objects ++ o ∷ [])
    (place new : List ℕ) (has : HasPlace d types objects place) where
  fit_there : Fit d types o → Fit e others o
  fit_there h = subst (λ t. Fit e t o) (sym same_types) (subst (λ t. Fit t types o) (sym same_domain) h)

  fit_here : Fit e others o → Fit d types o
  fit_here h = subst (λ t. Fit d t o) same_types (subst (λ t. Fit t others o) same_domain h)

  pub turn_with : (number : ℕ) → number ≡ length objects → new ≡ place ++ number ∷ [] → Fit e others o → HasPlace d types next new
  turn_with number many is fits =
      subst (λ os. HasPlace d types os new) (sym more)
      (subst (HasPlace d types (objects ++ o ∷ [])) (sym (is ∙ ap (λ n. place ++ n ∷ []) many)) (place_with d types objects o place has (fit_here fits)))

  pub turn_without : new ≡ place → (Fit e others o → ⊥) → HasPlace d types next new
  turn_without is fits =
      subst (λ os. HasPlace d types os new) (sym more)
      (subst (HasPlace d types (objects ++ o ∷ [])) (sym is) (place_without d types objects o place has (λ h. fits (fit_there h))))

-- that of all objects is the parameter's
pub is_place : (d : PlainDomain) (p : PlainProblem) (parameter : PlainTypedName) (objects : List PlainTypedName) (place : List ℕ) → objects ≡ all_objects d p → HasPlace d parameter.types objects place → IsPlace d p parameter place
is_place d p parameter objects place all has =
    let whole = subst (λ os. HasPlace d parameter.types os place) all has in
    record { rises = whole.rises; fit = whole.fit }
