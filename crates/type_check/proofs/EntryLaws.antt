-- The checks of the declared types, in text order.
use Rattle.std.proofs.Common.{◌≡◌, ℕ, ◌+◌, ◌<◌, true, false, cond, List, [], ◌∷◌, ◌++◌, length, get_or, filter, take, drop, Contains, sym, ap, ◌∙◌, subst}
use Rattle.std.specs.Prelude.{All}
use Rattle.std.proofs.lemmas.List.{append-nil, map-append, take_more, drop_more, take-append-drop}
use Rattle.std.proofs.lemmas.List.Elements.{All-append, filter-append}
use Rattle.grd_base.specs.declared.roles.FileRole.TheVariants.{Domain}
use Rattle.pddl_reader.specs.Values.{PlainTypedName, PlainDomain}
use Rattle.type_check.specs.declared.faults.CheckTypeFault.{CheckTypeFault}
use Rattle.type_check.specs.declared.faults.CheckTypeFault.TheVariants.{Typing}
use Rattle.type_check.specs.declared.faults.TypeKind.TheVariants.{Doubled, TypeCycle}
use Rattle.type_check.specs.Types.{names_of, is_entry}
use Rattle.type_check.specs.Checks.{Check, Meets, Acyclic, Passes, fault_at}
use Rattle.type_check.specs.Rules.{is_new, type_checks, checks_behind, checks_of_each}
use Rattle.type_check.specs.Tables.{HasFault}
use Rattle.type_check.proofs.FirstFaults.{fault_here, fault_later, fault_between, checks_behind-append}

abbrev acyclic : PlainTypedName → Check
acyclic n = record { need = Acyclic n.name.text; fault = fault_at TypeCycle Domain n.name.at }

module _ (d : PlainDomain) where
  -- the faults of one declared type
  pub doubled_fault : (before : List PlainTypedName) (n : PlainTypedName) (fault : CheckTypeFault) → fault ≡ Typing (fault_at Doubled Domain n.name.at) → Contains (names_of before) n.name.text
      → HasFault d (type_checks before n) fault
  doubled_fault before n fault is there =
      subst (HasFault d (type_checks before n)) (sym is) (fault_here d (is_new Domain (names_of before) n.name) (acyclic n ∷ []) (λ new. new there))

  pub cycle_fault : (before : List PlainTypedName) (n : PlainTypedName) (fault : CheckTypeFault) → fault ≡ Typing (fault_at TypeCycle Domain n.name.at)
      → (Contains (names_of before) n.name.text → ⊥) → (Meets d (Acyclic n.name.text) → ⊥) → HasFault d (type_checks before n) fault
  cycle_fault before n fault is new cyclic =
      subst (HasFault d (type_checks before n)) (sym is)
      (fault_later d (is_new Domain (names_of before) n.name) (acyclic n ∷ []) (Typing (acyclic n).fault) new (fault_here d (acyclic n) [] cyclic))

  -- the declared types so far
  module _ (xs : List PlainTypedName) (i : ℕ) (x : PlainTypedName) (within : i < length xs) (is : x ≡ get_or xs i x) where
    next : take (i + 1) xs ≡ take i xs ++ x ∷ []
    next = take_more xs i x within ∙ ap (λ y. take i xs ++ y ∷ []) (sym is)

    kept : is_entry x ≡ true → filter is_entry (x ∷ []) ≡ x ∷ []
    kept entry = ap (λ b. cond b (x ∷ []) []) entry

    dropped : is_entry x ≡ false → filter is_entry (x ∷ []) ≡ []
    dropped not_entry = ap (λ b. cond b (x ∷ []) []) not_entry

    pub entries_more : is_entry x ≡ true → filter is_entry (take (i + 1) xs) ≡ filter is_entry (take i xs) ++ x ∷ []
    entries_more entry = ap (filter is_entry) next ∙ filter-append is_entry (take i xs) (x ∷ []) ∙ ap (λ ys. filter is_entry (take i xs) ++ ys) (kept entry)

    pub entries_same : is_entry x ≡ false → filter is_entry (take (i + 1) xs) ≡ filter is_entry (take i xs)
    entries_same not_entry = ap (filter is_entry) next ∙ filter-append is_entry (take i xs) (x ∷ []) ∙ ap (λ ys. filter is_entry (take i xs) ++ ys) (dropped not_entry) ∙ append-nil (filter is_entry (take i xs))

    pub names_more : is_entry x ≡ true → (old new : List (List ℕ)) → old ≡ names_of (filter is_entry (take i xs)) → new ≡ old ++ x.name.text ∷ [] → new ≡ names_of (filter is_entry (take (i + 1) xs))
    names_more entry old new before added =
        added ∙ ap (λ names. names ++ x.name.text ∷ []) before
        ∙ sym (ap names_of (entries_more entry) ∙ map-append (λ (n : PlainTypedName). n.name.text) (filter is_entry (take i xs)) (x ∷ []))

    pub passed_more : is_entry x ≡ true → All (Passes d) (checks_of_each type_checks (filter is_entry (take i xs))) → All (Passes d) (type_checks (filter is_entry (take i xs)) x)
        → All (Passes d) (checks_of_each type_checks (filter is_entry (take (i + 1) xs)))
    passed_more entry before here =
        let front = filter is_entry (take i xs) in
        let more : checks_of_each type_checks (filter is_entry (take (i + 1) xs)) ≡ checks_of_each type_checks front ++ type_checks front x =
        ap (checks_of_each type_checks) (entries_more entry) ∙ checks_behind-append type_checks [] front (x ∷ []) ∙ ap (λ ys. checks_of_each type_checks front ++ ys) (append-nil (type_checks front x)) in
        subst (All (Passes d)) (sym more) (All-append (Passes d) (checks_of_each type_checks front) (type_checks front x) before here)

    pub fault_more : is_entry x ≡ true → (fault : CheckTypeFault) → All (Passes d) (checks_of_each type_checks (filter is_entry (take i xs))) → HasFault d (type_checks (filter is_entry (take i xs)) x) fault
        → HasFault d (checks_of_each type_checks (filter is_entry xs)) fault
    fault_more entry fault before here =
        let front = filter is_entry (take i xs) in
        let rest = filter is_entry (drop (i + 1) xs) in
        let parts : filter is_entry xs ≡ front ++ x ∷ rest =
        ap (filter is_entry) (sym (take-append-drop i xs)) ∙ filter-append is_entry (take i xs) (drop i xs)
        ∙ ap (λ ys. front ++ filter is_entry ys) (drop_more xs i x within ∙ ap (λ y. y ∷ drop (i + 1) xs) (sym is))
        ∙ ap (λ b. front ++ cond b (x ∷ rest) rest) entry in
        let whole : checks_of_each type_checks (filter is_entry xs) ≡ checks_of_each type_checks front ++ (type_checks front x ++ checks_behind type_checks (front ++ x ∷ []) rest) =
        ap (checks_of_each type_checks) parts ∙ checks_behind-append type_checks [] front (x ∷ rest) in
        fault_between d (checks_of_each type_checks (filter is_entry xs)) (checks_of_each type_checks front) (type_checks front x) (checks_behind type_checks (front ++ x ∷ []) rest) fault whole before here
