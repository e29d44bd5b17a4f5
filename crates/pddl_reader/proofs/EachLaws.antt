-- What is read one step after another, and each form in turn: the values and the first fault.
use Rattle.std.proofs.Common.{◌≡◌, ◌⊎◌, List, [], ◌∷◌, refl, ap, ◌∙◌, subst, inl, inr, Ok, Err}
use Rattle.std.specs.Prelude.{All}
use Rattle.std.proofs.lemmas.List.Elements.{All-nil, All-cons, All-head, All-tail}
use Rattle.pddl_reader.specs.declared.faults.PddlFault.{PddlFault}
use Rattle.pddl_reader.specs.Forms.{Form}
use Rattle.pddl_reader.specs.Sections.{Pairwise}
use Rattle.pddl_reader.specs.Faults.{IsFirstFaulty}
use Rattle.pddl_reader.specs.Reading.{Read, and_then, each_at}

module _ {A B : Type 0} where
  -- where two steps give a value, both give one
  pub and_then-Ok : (r : Read A) (f : A → Read B) (y : B) → and_then r f ≡ Ok y → (x : A) × (r ≡ Ok x) × (f x ≡ Ok y)
  and_then-Ok (Ok x) f y h = (x, refl, h)
  and_then-Ok (Err fault) f y h = absurd (cc)

  -- a fault of two steps is one of the first, or of the second behind a value of the first
  pub and_then-Err : (r : Read A) (f : A → Read B) (fault : PddlFault) → and_then r f ≡ Err fault
      → (r ≡ Err fault) ⊎ ((x : A) × (r ≡ Ok x) × (f x ≡ Err fault))
  and_then-Err (Ok x) f fault h = inr (x, refl, h)
  and_then-Err (Err cause) f fault h = inl (cc)

  -- the steps one behind the other
  pub and_then-from : (r : Read A) (f : A → Read B) (x : A) (y : Read B) → r ≡ Ok x → f x ≡ y → and_then r f ≡ y
  and_then-from r f x y first second = ap (λ s. and_then s f) first ∙ second

module _ {A : Type 0} (read : Form → Read A) where
  -- each form is what its value says, if that holds of one
  pub each_spells : (R : Form → A → Type 0) → ((f : Form) (x : A) → read f ≡ Ok x → R f x)
      → (forms : List Form) (xs : List A) → each_at read forms ≡ Ok xs → Pairwise R forms xs
  each_spells R one [] [] h = tt
  each_spells R one [] (x ∷ xs) h = absurd (cc)
  each_spells R one (f ∷ forms) xs h =
      let first = and_then-Ok (read f) (λ x. and_then (each_at read forms) (λ more. Ok (x ∷ more))) xs h in
      let rest = and_then-Ok (each_at read forms) (λ more. Ok (first.0 ∷ more)) xs first.2 in
      let same : first.0 ∷ rest.0 ≡ xs = cc in
      subst (Pairwise R (f ∷ forms)) same (one f first.0 first.1, each_spells R one forms rest.0 rest.1)

  pub each_reads : (R : Form → A → Type 0) → ((f : Form) (x : A) → R f x → read f ≡ Ok x)
      → (forms : List Form) (xs : List A) → Pairwise R forms xs → each_at read forms ≡ Ok xs
  each_reads R one [] [] h = refl
  each_reads R one [] (x ∷ xs) h = absurd h
  each_reads R one (f ∷ forms) [] h = absurd h
  each_reads R one (f ∷ forms) (x ∷ xs) h =
      and_then-from (read f) (λ y. and_then (each_at read forms) (λ more. Ok (y ∷ more))) x (Ok (x ∷ xs)) (one f x h.0)
      (and_then-from (each_at read forms) (λ more. Ok (x ∷ more)) xs (Ok (x ∷ xs)) (each_reads R one forms xs h.1) refl)

  -- all forms are good where each has a value, and the other way round
  pub each_good : (Good : Form → Type 0) → ((f : Form) (x : A) → read f ≡ Ok x → Good f)
      → (forms : List Form) (xs : List A) → each_at read forms ≡ Ok xs → All Good forms
  each_good Good one [] xs h = All-nil Good
  each_good Good one (f ∷ forms) xs h =
      let first = and_then-Ok (read f) (λ x. and_then (each_at read forms) (λ more. Ok (x ∷ more))) xs h in
      let rest = and_then-Ok (each_at read forms) (λ more. Ok (first.0 ∷ more)) xs first.2 in
      All-cons Good f forms (one f first.0 first.1) (each_good Good one forms rest.0 rest.1)

  pub each_given : (Good : Form → Type 0) → ((f : Form) → Good f → (x : A) × (read f ≡ Ok x))
      → (forms : List Form) → All Good forms → (xs : List A) × (each_at read forms ≡ Ok xs)
  each_given Good one [] all = ([], refl)
  each_given Good one (f ∷ forms) all =
      let first = one f (All-head Good f forms all) in
      let rest = each_given Good one forms (All-tail Good f forms all) in (
        first.0 ∷ rest.0,
        and_then-from (read f) (λ y. and_then (each_at read forms) (λ more. Ok (y ∷ more))) first.0 (Ok (first.0 ∷ rest.0)) first.1
            (and_then-from (each_at read forms) (λ more. Ok (first.0 ∷ more)) rest.0 (Ok (first.0 ∷ rest.0)) rest.1 refl),
      )

  -- a fault is that of the first form that has no value
  pub each_faults : (Good : Form → Type 0) (Bad : Form → PddlFault → Type 0)
      → ((f : Form) (x : A) → read f ≡ Ok x → Good f) → ((f : Form) (fault : PddlFault) → read f ≡ Err fault → Bad f fault)
      → (forms : List Form) (fault : PddlFault) → each_at read forms ≡ Err fault → IsFirstFaulty Good Bad forms fault
  each_faults Good Bad good bad [] fault h = absurd (cc)
  each_faults Good Bad good bad (f ∷ forms) fault h =
      elim (and_then-Err (read f) (λ x. and_then (each_at read forms) (λ more. Ok (x ∷ more))) fault h) [
        | inl e ↦ record { before = []; form = f; behind = forms; whole = refl; good = All-nil Good; bad = bad f fault e }
        | inr (x, e, k) ↦ elim (and_then-Err (each_at read forms) (λ more. Ok (x ∷ more)) fault k) [
          | inl e' ↦ later f x e (each_faults Good Bad good bad forms fault e')
          | inr (xs, e', k') ↦ absurd (cc)
        ]
      ]
    where
      later : (f : Form) (x : A) → read f ≡ Ok x → {forms : List Form} → IsFirstFaulty Good Bad forms fault → IsFirstFaulty Good Bad (f ∷ forms) fault
      later f x e {forms} r = record {
        before = f ∷ r.before;
        form = r.form;
        behind = r.behind;
        whole = ap (λ s. f ∷ s) r.whole;
        good = All-cons Good f r.before (good f x e) r.good;
        bad = r.bad;
      }
