-- Files make one value, or have one fault.
use Rattle.std.proofs.Common.{◌≡◌, ℕ, ◌<◌, zero, suc, List, [], ◌∷◌, ◌++◌, length, get_or, refl, sym, ap, ◌∙◌, subst, inl, inr, arith, Result, Ok, Err}
use Rattle.std.proofs.Math.Path.{ap₂}
use Rattle.std.specs.Prelude.{◌⊎◌, All, Contains, IfOk, IfErr, IsOk}
use Rattle.std.specs.List.{AllByRecursion}
use Rattle.std.proofs.lemmas.List.Elements.{All-head, All-tail, All-contains, All-from_recursion, Contains-append_right}
use Rattle.grd_base.specs.Rising.{IsRisingBy}
use Rattle.pddl_reader.specs.Forms.{Word}
use Rattle.pddl_reader.specs.Values.{PlainTypedName, PlainPredicate, PlainSchema, PlainDomain, PlainProblem}
use Rattle.pddl_reader.specs.Sections.{Pairwise}
use Rattle.type_check.specs.Values.{PlainTypedPredicate, PlainTypedSchema, PlainTypedLiteral, PlainTypedObject, PlainGroundAtom, PlainTyped}
use Rattle.type_check.specs.Checks.{Check, Passes, IsFirstFault}
use Rattle.type_check.specs.Rules.{checks_of, IsWellTyped, IsTypeFault}
use Rattle.type_check.specs.Typing.{IsPlace, ArePlaces, IsTypedPredicate, IsTypedSchema, IsTyped}
use Rattle.type_check.specs.Tables.{HasFault}
use Rattle.type_check.specs.declared.faults.TypeFault.{TypeFault}
use Rattle.type_check.specs.declared.faults.CheckTypeFault.{CheckTypeFault}
use Rattle.type_check.specs.declared.faults.CheckTypeFault.TheVariants.{Typing, OutOfMemory}
use Rattle.type_check.proofs.Passed.{holds_between}

-- ---- rising lists with the same members

abbrev Rises : List ℕ → Type 0
Rises xs = IsRisingBy (λ k. k) xs

none_in : (k : ℕ) → Contains [] k → ⊥
none_in k h = omega (arith, h.1)

behind_first : (x k : ℕ) (xs : List ℕ) → AllByRecursion (λ y. x < y) xs → Contains xs k → x < k
behind_first x k xs above h = All-contains (λ y. x < y) xs k (All-from_recursion (λ y. x < y) xs above) h

cases_at : (x k : ℕ) (xs : List ℕ) (n : ℕ) → n < length (x ∷ xs) → get_or (x ∷ xs) n k ≡ k → (x ≡ k) ⊎ Contains xs k
cases_at x k xs zero l e = inl e
cases_at x k xs (suc n) l e = inr (n, omega arith, e)

cases_in : (x k : ℕ) (xs : List ℕ) → Contains (x ∷ xs) k → (x ≡ k) ⊎ Contains xs k
cases_in x k xs h = cases_at x k xs h.0 h.1 h.2

here_in : (x : ℕ) (xs : List ℕ) → Contains (x ∷ xs) x
here_in x xs = (0, omega arith, refl)

there_in : (x k : ℕ) (xs : List ℕ) → Contains xs k → Contains (x ∷ xs) k
there_in x k xs h = Contains-append_right (x ∷ []) xs k h

-- the firsts of both lists are the same, where each is in the other list
same_first : (x y : ℕ) (xs ys : List ℕ) → AllByRecursion (λ k. x < k) xs → AllByRecursion (λ k. y < k) ys → (x ≡ y) ⊎ Contains xs y → (y ≡ x) ⊎ Contains ys x → x ≡ y
same_first x y xs ys above over (inl e) k = e
same_first x y xs ys above over (inr h) (inl e) = sym e
same_first x y xs ys above over (inr h) (inr k) = absurd (omega (arith, behind_first x y xs above h, behind_first y x ys over k))

-- what is behind the first of one list is behind that of the other
rest_in : (x y k : ℕ) (ys : List ℕ) → x ≡ y → x < k → (y ≡ k) ⊎ Contains ys k → Contains ys k
rest_in x y k ys same above (inl e) = absurd (omega arith)
rest_in x y k ys same above (inr h) = h

same_members : (xs ys : List ℕ) → Rises xs → Rises ys → ((k : ℕ) → Contains xs k → Contains ys k) → ((k : ℕ) → Contains ys k → Contains xs k) → xs ≡ ys
same_members [] [] r s to from = refl
same_members [] (y ∷ ys) r s to from = absurd (none_in y (from y (here_in y ys)))
same_members (x ∷ xs) [] r s to from = absurd (none_in x (to x (here_in x xs)))
same_members (x ∷ xs) (y ∷ ys) r s to from =
    let same : x ≡ y = same_first x y xs ys r.0 s.0 (cases_in x y xs (from y (here_in y ys))) (cases_in y x ys (to x (here_in x xs))) in
    ap₂ ◌∷◌ same
    (same_members xs ys r.1 s.1
    (λ k h. rest_in x y k ys same (behind_first x k xs r.0 h) (cases_in y k ys (to k (there_in x k xs h))))
    (λ k h. rest_in y x k xs (sym same) (behind_first y k ys s.0 h) (cases_in x k xs (from k (there_in y k ys h)))))

-- ---- one by one

one_by_one : {X Y : Type 0} (R : X → Y → Type 0) → ((x : X) (y z : Y) → R x y → R x z → y ≡ z) → (xs : List X) (ys zs : List Y) → Pairwise R xs ys → Pairwise R xs zs → ys ≡ zs
one_by_one R one [] [] [] h k = refl
one_by_one R one [] [] (z ∷ zs) h k = absurd k
one_by_one R one [] (y ∷ ys) zs h k = absurd h
one_by_one R one (x ∷ xs) [] zs h k = absurd h
one_by_one R one (x ∷ xs) (y ∷ ys) [] h k = absurd k
one_by_one R one (x ∷ xs) (y ∷ ys) (z ∷ zs) h k = ap₂ ◌∷◌ (one x y z h.0 k.0) (one_by_one R one xs ys zs h.1 k.1)

-- ---- what files make

module _ (d : PlainDomain) (p : PlainProblem) where
  one_place : (parameter : PlainTypedName) (place other : List ℕ) → IsPlace d p parameter place → IsPlace d p parameter other → place ≡ other
  one_place parameter place other h k =
      same_members place other h.rises k.rises (λ n is. (k.fit n).1 ((h.fit n).0 is)) (λ n is. (h.fit n).1 ((k.fit n).0 is))

  one_list : (parameters : List PlainTypedName) (places others : List (List ℕ)) → ArePlaces d p parameters places → ArePlaces d p parameters others → places ≡ others
  one_list = one_by_one (IsPlace d p) one_place

  one_predicate : (q : PlainPredicate) (t u : PlainTypedPredicate) → IsTypedPredicate d p q t → IsTypedPredicate d p q u → t ≡ u
  one_predicate q t u h k =
      ap₂ (λ name places. record { name = name; places = places }) (h.name ∙ sym k.name) (one_list q.parameters t.places u.places h.places k.places)

  one_schema : (a : PlainSchema) (t u : PlainTypedSchema) → IsTypedSchema d p a t → IsTypedSchema d p a u → t ≡ u
  one_schema a t u h k =
      let pre : t.pre ≡ u.pre = h.pre ∙ sym k.pre in
      let effect : t.effect ≡ u.effect = h.effect ∙ sym k.effect in
      ap₂ (λ (front : Word × List (List ℕ)) (back : List PlainTypedLiteral × List PlainTypedLiteral). record { name = front.0; places = front.1; pre = back.0; effect = back.1 })
      (ap₂ (λ name places. (name, places)) (h.name ∙ sym k.name) (one_list a.parameters t.places u.places h.places k.places))
      (ap₂ (λ pre effect. (pre, effect)) pre effect)

  -- they make one value
  pub one_typed : (t u : PlainTyped) → IsTyped d p t → IsTyped d p u → t ≡ u
  one_typed t u h k =
      let objects : t.objects ≡ u.objects = h.objects ∙ sym k.objects in
      let init : t.init ≡ u.init = h.init ∙ sym k.init in
      ap₂ (λ (front : List PlainTypedObject × List PlainTypedPredicate) (back : List PlainTypedSchema × List PlainGroundAtom). record { objects = front.0; predicates = front.1; schemas = back.0; init = back.1 })
      (ap₂ (λ objects predicates. (objects, predicates)) objects (one_by_one (IsTypedPredicate d p) one_predicate d.predicates t.predicates u.predicates h.predicates k.predicates))
      (ap₂ (λ schemas init. (schemas, init)) (one_by_one (IsTypedSchema d p) one_schema d.actions t.schemas u.schemas h.schemas k.schemas) init)

-- ---- the first fault

-- behind what is passed, the first that is not is the same one
same_check : (P : Check → Type 0) (before others behind rest : List Check) (check other : Check) → before ++ check ∷ behind ≡ others ++ other ∷ rest
    → All P before → All P others → (P check → ⊥) → (P other → ⊥) → check ≡ other
same_check P [] [] behind rest check other e g h bad worse = cc
same_check P [] (next ∷ others) behind rest check other e g h bad worse =
    let same : next ≡ check = cc in
    absurd (bad (subst P same (All-head P next others h)))
same_check P (first ∷ before) [] behind rest check other e g h bad worse =
    let same : first ≡ other = cc in
    absurd (worse (subst P same (All-head P first before g)))
same_check P (first ∷ before) (next ∷ others) behind rest check other e g h bad worse =
    let tails : before ++ check ∷ behind ≡ others ++ other ∷ rest = cc in
    same_check P before others behind rest check other tails (All-tail P first before g) (All-tail P next others h) bad worse

one_first : (d : PlainDomain) (checks : List Check) (f g : TypeFault) → IsFirstFault d checks f → IsFirstFault d checks g → f ≡ g
one_first d checks f g h k =
    let same : h.check ≡ k.check = same_check (Passes d) h.before k.before h.behind k.behind h.check k.check (sym h.whole ∙ k.whole) h.passed k.passed h.failed k.failed in
    sym h.is ∙ ap (λ check. check.fault) same ∙ k.is

no_fault : (d : PlainDomain) (checks : List Check) (f : TypeFault) → All (Passes d) checks → IsFirstFault d checks f → ⊥
no_fault d checks f passed h = h.failed (holds_between (Passes d) h.before h.behind h.check (subst (All (Passes d)) h.whole passed))

-- ---- what is found is the answer

module _ (d : PlainDomain) (p : PlainProblem) where
  pub only_fault : (result : Result PlainTyped CheckTypeFault) → IfErr result (HasFault d (checks_of d p)) → (f : TypeFault) → result ≡ Err (Typing f) → IsTypeFault d p f
  only_fault result has f e =
      let at = subst (λ r. IfErr r (HasFault d (checks_of d p))) e has in at

  pub typed_exactly : (result : Result PlainTyped CheckTypeFault) → IfOk result (λ t. IsTyped d p t) → IfErr result (HasFault d (checks_of d p))
      → (t : PlainTyped) → IsWellTyped d p → IsTyped d p t → (result ≡ Ok t) ⊎ (result ≡ Err OutOfMemory)
  typed_exactly (Ok u) made has t well is = inl (ap Ok (one_typed d p u t made is))
  typed_exactly (Err (Typing f)) made has t well is = absurd (no_fault d (checks_of d p) f well has)
  typed_exactly (Err OutOfMemory) made has t well is = inr refl

  pub makes : (result : Result PlainTyped CheckTypeFault) → IfErr result (HasFault d (checks_of d p)) → IsWellTyped d p → IsOk result ⊎ (result ≡ Err OutOfMemory)
  makes (Ok t) has well = inl refl
  makes (Err (Typing f)) has well = absurd (no_fault d (checks_of d p) f well has)
  makes (Err OutOfMemory) has well = inr refl

  pub fault_exactly : (result : Result PlainTyped CheckTypeFault) → IfOk result (λ t. IsWellTyped d p) → IfErr result (HasFault d (checks_of d p))
      → (f : TypeFault) → IsTypeFault d p f → (result ≡ Err (Typing f)) ⊎ (result ≡ Err OutOfMemory)
  fault_exactly (Ok t) well has f is = absurd (no_fault d (checks_of d p) f well is)
  fault_exactly (Err (Typing g)) well has f is = inl (ap (λ h. Err (Typing h)) (one_first d (checks_of d p) g f has is))
  fault_exactly (Err OutOfMemory) well has f is = inr refl
