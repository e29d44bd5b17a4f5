-- Laws of checks that are passed, and of the first that is not.
use Rattle.std.proofs.Common.{◌≡◌, ℕ, ◌+◌, ◌<◌, List, [], ◌∷◌, ◌++◌, length, map, get_or, take, drop, Result, Ok, Err, refl, sym, ap, ◌∙◌, subst, append_assoc}
use Rattle.std.specs.Prelude.{All, IfErr}
use Rattle.std.specs.Result.{IsErrAnd}
use Rattle.std.specs.List.{flat_map}
use Rattle.std.proofs.lemmas.List.{append-nil, take_more, drop_more, take-append-drop}
use Rattle.std.proofs.lemmas.List.Elements.{All-nil, All-cons, All-append}
use Rattle.std.proofs.lemmas.List.Concat.{flat_map-append}
use Rattle.pddl_reader.specs.Values.{PlainDomain}
use Rattle.type_check.specs.declared.faults.CheckTypeFault.{CheckTypeFault}
use Rattle.type_check.specs.declared.faults.CheckTypeFault.TheVariants.{Typing, OutOfMemory}
use Rattle.type_check.specs.Checks.{Check, Passes}
use Rattle.type_check.specs.Rules.{checks_behind, checks_of_each}
use Rattle.type_check.specs.Tables.{HasFault}

module _ (d : PlainDomain) where
  -- the fault of the first checks is that of the whole
  pub fault_front : (xs ys : List Check) (fault : CheckTypeFault) → HasFault d xs fault → HasFault d (xs ++ ys) fault
  fault_front xs ys (Typing f) h = record {
    before = h.before;
    check = h.check;
    behind = h.behind ++ ys;
    whole = ap (λ zs. zs ++ ys) h.whole ∙ append_assoc h.before (h.check ∷ h.behind) ys;
    passed = h.passed;
    failed = h.failed;
    is = h.is;
  }
  fault_front xs ys OutOfMemory h = tt

  -- and so is that of the checks behind some that are passed
  pub fault_behind : (xs ys : List Check) (fault : CheckTypeFault) → All (Passes d) xs → HasFault d ys fault → HasFault d (xs ++ ys) fault
  fault_behind xs ys (Typing f) passed h = record {
    before = xs ++ h.before;
    check = h.check;
    behind = h.behind;
    whole = ap (λ zs. xs ++ zs) h.whole ∙ sym (append_assoc xs h.before (h.check ∷ h.behind));
    passed = All-append (Passes d) xs h.before passed h.passed;
    failed = h.failed;
    is = h.is;
  }
  fault_behind xs ys OutOfMemory passed h = tt

  -- a check that is not passed, in front of others
  pub fault_here : (check : Check) (checks : List Check) → (Passes d check → ⊥) → HasFault d (check ∷ checks) (Typing check.fault)
  fault_here check checks failed = record {
    before = [];
    check = check;
    behind = checks;
    whole = refl;
    passed = All-nil (Passes d);
    failed = failed;
    is = refl;
  }

  pub fault_later : (check : Check) (checks : List Check) (fault : CheckTypeFault) → Passes d check → HasFault d checks fault → HasFault d (check ∷ checks) fault
  fault_later check checks fault passed h =
      fault_behind (check ∷ []) checks fault (All-cons (Passes d) check [] passed (All-nil (Passes d))) h

  pub passed_one : (check : Check) → Passes d check → All (Passes d) (check ∷ [])
  passed_one check passed = All-cons (Passes d) check [] passed (All-nil (Passes d))

  -- the fault of the second check, and of those behind two
  pub fault_second : (first second : Check) (rest : List Check) (fault : CheckTypeFault) → Passes d first → HasFault d (second ∷ []) fault → HasFault d (first ∷ second ∷ rest) fault
  fault_second first second rest fault passed h = fault_later first (second ∷ rest) fault passed (fault_front (second ∷ []) rest fault h)

  pub fault_third : (first second : Check) (rest : List Check) (fault : CheckTypeFault) → Passes d first → Passes d second → HasFault d rest fault → HasFault d (first ∷ second ∷ rest) fault
  fault_third first second rest fault passed passed_second h = fault_later first (second ∷ rest) fault passed (fault_later second rest fault passed_second h)

  pub passed_third : (first second : Check) (rest : List Check) → Passes d first → Passes d second → All (Passes d) rest → All (Passes d) (first ∷ second ∷ rest)
  passed_third first second rest passed passed_second h =
      All-cons (Passes d) first (second ∷ rest) passed (All-cons (Passes d) second rest passed_second h)

  -- the fault in the middle of three parts
  pub fault_between : (whole xs ys zs : List Check) (fault : CheckTypeFault) → whole ≡ xs ++ (ys ++ zs) → All (Passes d) xs → HasFault d ys fault → HasFault d whole fault
  fault_between whole xs ys zs fault same passed h =
      subst (λ all. HasFault d all fault) (sym same) (fault_behind xs (ys ++ zs) fault passed (fault_front ys zs fault h))

-- a fault that is passed on by '?'
pub fault_passes : {T : Type 0} (d : PlainDomain) (checks : List Check) (r : Result T CheckTypeFault) (fault : CheckTypeFault)
    → IsErrAnd r (λ y. y ≡ fault) → HasFault d checks fault → IfErr r (HasFault d checks)
fault_passes d checks (Ok x) fault is has = tt
fault_passes d checks (Err y) fault is has = subst (HasFault d checks) (sym is) has

module _ {X : Type 0} (checks : List X → X → List Check) where
  -- the checks of a list are those of its front, and then those of its rest behind the front
  pub checks_behind-append : (before xs ys : List X) → checks_behind checks before (xs ++ ys) ≡ checks_behind checks before xs ++ checks_behind checks (before ++ xs) ys
  checks_behind-append before [] ys = ap (λ b. checks_behind checks b ys) (sym (append-nil before))
  checks_behind-append before (x ∷ xs) ys =
      ap (λ zs. checks before x ++ zs)
      (checks_behind-append (before ++ x ∷ []) xs ys
      ∙ ap (λ b. checks_behind checks (before ++ x ∷ []) xs ++ checks_behind checks b ys) (append_assoc before (x ∷ []) xs))
      ∙ sym (append_assoc (checks before x) (checks_behind checks (before ++ x ∷ []) xs) (checks_behind checks (before ++ (x ∷ xs)) ys))

  pub each_more : (xs : List X) (i : ℕ) (x : X) → i < length xs → x ≡ get_or xs i x
      → checks_of_each checks (take (i + 1) xs) ≡ checks_of_each checks (take i xs) ++ checks (take i xs) x
  each_more xs i x within is =
      ap (checks_of_each checks) (take_more xs i x within ∙ ap (λ y. take i xs ++ y ∷ []) (sym is))
      ∙ checks_behind-append [] (take i xs) (x ∷ [])
      ∙ ap (λ zs. checks_of_each checks (take i xs) ++ zs) (append-nil (checks (take i xs) x))

  pub each_parts : (xs : List X) (i : ℕ) (x : X) → i < length xs → x ≡ get_or xs i x
      → checks_of_each checks xs
      ≡ checks_of_each checks (take i xs) ++ (checks (take i xs) x ++ checks_behind checks (take i xs ++ x ∷ []) (drop (i + 1) xs))
  each_parts xs i x within is =
      ap (checks_of_each checks) (sym (take-append-drop i xs))
      ∙ checks_behind-append [] (take i xs) (drop i xs)
      ∙ ap (λ rest. checks_of_each checks (take i xs) ++ checks_behind checks (take i xs) rest)
      (drop_more xs i x within ∙ ap (λ y. y ∷ drop (i + 1) xs) (sym is))

  module _ (d : PlainDomain) where
    -- one item more is passed
    pub each_passed : (xs : List X) (i : ℕ) (x : X) → i < length xs → x ≡ get_or xs i x
        → All (Passes d) (checks_of_each checks (take i xs)) → All (Passes d) (checks (take i xs) x)
        → All (Passes d) (checks_of_each checks (take (i + 1) xs))
    each_passed xs i x within is before here =
        subst (All (Passes d)) (sym (each_more xs i x within is))
        (All-append (Passes d) (checks_of_each checks (take i xs)) (checks (take i xs) x) before here)

    -- the item has a fault, and those before it have none
    pub each_fault : (xs : List X) (i : ℕ) (x : X) (fault : CheckTypeFault) → i < length xs → x ≡ get_or xs i x
        → All (Passes d) (checks_of_each checks (take i xs)) → HasFault d (checks (take i xs) x) fault
        → HasFault d (checks_of_each checks xs) fault
    each_fault xs i x fault within is before here =
        fault_between d (checks_of_each checks xs) (checks_of_each checks (take i xs)) (checks (take i xs) x)
        (checks_behind checks (take i xs ++ x ∷ []) (drop (i + 1) xs)) fault (each_parts xs i x within is) before here

-- checks of each item that don't depend on the others
module _ {X : Type 0} (checks : X → List Check) where
  pub flat_more : (xs : List X) (i : ℕ) (x : X) → i < length xs → x ≡ get_or xs i x
      → flat_map checks (take (i + 1) xs) ≡ flat_map checks (take i xs) ++ checks x
  flat_more xs i x within is =
      ap (flat_map checks) (take_more xs i x within ∙ ap (λ y. take i xs ++ y ∷ []) (sym is))
      ∙ flat_map-append checks (take i xs) (x ∷ [])
      ∙ ap (λ zs. flat_map checks (take i xs) ++ zs) (append-nil (checks x))

  pub flat_parts : (xs : List X) (i : ℕ) (x : X) → i < length xs → x ≡ get_or xs i x
      → flat_map checks xs ≡ flat_map checks (take i xs) ++ (checks x ++ flat_map checks (drop (i + 1) xs))
  flat_parts xs i x within is =
      ap (flat_map checks) (sym (take-append-drop i xs))
      ∙ flat_map-append checks (take i xs) (drop i xs)
      ∙ ap (λ rest. flat_map checks (take i xs) ++ flat_map checks rest)
      (drop_more xs i x within ∙ ap (λ y. y ∷ drop (i + 1) xs) (sym is))

  module _ (d : PlainDomain) where
    pub flat_passed : (xs : List X) (i : ℕ) (x : X) → i < length xs → x ≡ get_or xs i x
        → All (Passes d) (flat_map checks (take i xs)) → All (Passes d) (checks x)
        → All (Passes d) (flat_map checks (take (i + 1) xs))
    flat_passed xs i x within is before here =
        subst (All (Passes d)) (sym (flat_more xs i x within is))
        (All-append (Passes d) (flat_map checks (take i xs)) (checks x) before here)

    pub flat_fault : (xs : List X) (i : ℕ) (x : X) (fault : CheckTypeFault) → i < length xs → x ≡ get_or xs i x
        → All (Passes d) (flat_map checks (take i xs)) → HasFault d (checks x) fault
        → HasFault d (flat_map checks xs) fault
    flat_fault xs i x fault within is before here =
        fault_between d (flat_map checks xs) (flat_map checks (take i xs)) (checks x)
        (flat_map checks (drop (i + 1) xs)) fault (flat_parts xs i x within is) before here

-- one check of each item
module _ {X : Type 0} (check : X → Check) (d : PlainDomain) where
  pub map_flat : (xs : List X) → map check xs ≡ flat_map (λ x. check x ∷ []) xs
  map_flat [] = refl
  map_flat (x ∷ xs) = ap (λ zs. check x ∷ zs) (map_flat xs)

  pub map_passed : (xs : List X) (i : ℕ) (x : X) → i < length xs → x ≡ get_or xs i x
      → All (Passes d) (map check (take i xs)) → Passes d (check x) → All (Passes d) (map check (take (i + 1) xs))
  map_passed xs i x within is before here =
      subst (All (Passes d)) (sym (map_flat (take (i + 1) xs)))
      (flat_passed (λ y. check y ∷ []) d xs i x within is (subst (All (Passes d)) (map_flat (take i xs)) before) (passed_one d (check x) here))

  pub map_fault : (xs : List X) (i : ℕ) (x : X) → i < length xs → x ≡ get_or xs i x
      → All (Passes d) (map check (take i xs)) → (Passes d (check x) → ⊥) → HasFault d (map check xs) (Typing (check x).fault)
  map_fault xs i x within is before failed =
      subst (λ all. HasFault d all (Typing (check x).fault)) (sym (map_flat xs))
      (flat_fault (λ y. check y ∷ []) d xs i x (Typing (check x).fault) within is (subst (All (Passes d)) (map_flat (take i xs)) before) (fault_here d (check x) [] failed))
