-- A failure is counted.
use Rattle.std.proofs.Common.{◌≡◌, ℕ, ◌+◌, List, [], ◌∷◌, ◌++◌, Bool, true, false, cond, not, ◌&&◌, refl, sym, ap, subst, Err, arith}
use Rattle.std.proofs.lemmas.List.Sums.{sum_by-append}
use Rattle.std.proofs.lemmas.Slice.Eq.{bytes_eq-Decides}
use Rattle.std.specs.Str.{bytes_eq}
use Rattle.grd_io.specs.declared.faults.ShelfFault.{ShelfFault}
use Rattle.grd_io.specs.declared.faults.ShelfFault.TheVariants.{Failed, OutOfMemory}
use Rattle.grd_io.specs.Counts.{Failure, is_failure_of, count_of}
use Rattle.grd_io.specs.Causes.{HasShelfCause}

one_more : (failures : List Failure) (failure : Failure) (x : List ℕ) (w : Bool) → count_of (failures ++ failure ∷ []) x w ≡ count_of failures x w + cond (is_failure_of x w failure) 1 0
one_more failures failure x w = let h = sum_by-append (λ f. cond (is_failure_of x w f) 1 0) failures (failure ∷ []) in omega (arith, h)

count_same : (name : List ℕ) (w : Bool) → ◌≡◌ {A = ℕ} (cond (is_failure_of name w (name, w)) 1 0) 1
count_same name true = ap (λ b. cond (b && true) 1 0) ((bytes_eq-Decides name name).1 refl)
count_same name false = ap (λ b. cond (b && true) 1 0) ((bytes_eq-Decides name name).1 refl)

count_other : (name x : List ℕ) (writing w : Bool) → (x ≡ name → w ≡ writing → ⊥) → ◌≡◌ {A = ℕ} (cond (is_failure_of x w (name, writing)) 1 0) 0
count_other name x writing w ne = go (bytes_eq x name) refl w writing ne
  where
    go : (b : Bool) → bytes_eq x name ≡ b → (u v : Bool) → (x ≡ name → u ≡ v → ⊥) → ◌≡◌ {A = ℕ} (cond (b && cond u v (not v)) 1 0) 0
    go true is true true ne = absurd (ne ((bytes_eq-Decides x name).0 is) refl)
    go true is false false ne = absurd (ne ((bytes_eq-Decides x name).0 is) refl)
    go true is true false ne = refl
    go true is false true ne = refl
    go false is u v ne = refl

-- the counts where a failure was listed, or nothing was for want of memory
pub noted_cause : {T : Type 0} (old new : List Failure) (name : List ℕ) (writing : Bool) (fault : ShelfFault) → (fault ≡ Failed → new ≡ old ++ (name, writing) ∷ []) → (fault ≡ OutOfMemory → new ≡ old) → HasShelfCause {T = T} Failed (count_of old) (count_of new) name writing (Err fault)
noted_cause {T} old new name writing Failed noted unnoted =
    let P : List Failure → Type 0 = λ fs. HasShelfCause {T = T} Failed (count_of old) (count_of fs) name writing (Err Failed) in
    subst P (sym (noted refl)) (record {
      later = λ x w. let up = one_more old (name, writing) x w in omega (arith, up);
      others = λ x w ne. let up = one_more old (name, writing) x w in let none = count_other name x writing w ne in omega (arith, up, none);
      kept = tt;
      failed = λ _. let up : count_of (old ++ (name, writing) ∷ []) name writing ≡ count_of old name writing + cond (is_failure_of name writing (name, writing)) 1 0 = one_more old (name, writing) name writing in let one = count_same name writing in omega (arith, up, one);
    })
noted_cause {T} old new name writing OutOfMemory noted unnoted =
    let P : List Failure → Type 0 = λ fs. HasShelfCause {T = T} Failed (count_of old) (count_of fs) name writing (Err OutOfMemory) in
    subst P (sym (unnoted refl)) (record { later = λ x w. omega arith; others = λ x w ne. refl; kept = tt; failed = λ is. cc })
