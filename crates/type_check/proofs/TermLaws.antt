-- The rules of terms: of a name that is found, and of terms in turn.
use Rattle.std.proofs.Common.{◌≡◌, ℕ, ◌+◌, ◌<◌, Bool, true, false, cond, List, [], ◌∷◌, ◌++◌, Some, length, map, get_or, take, drop, refl, sym, ap, ◌∙◌, subst, append_assoc, arith}
use mathlib.Core.Path.{ap₂}
use Rattle.std.specs.Prelude.{All, Contains}
use Rattle.std.specs.Str.{bytes_eq}
use Rattle.std.proofs.lemmas.List.{append-nil, take_more, drop_more, take-append-drop, length-take-le, length-map, get_or-map, map-append, map_more}
use Rattle.std.proofs.lemmas.List.Elements.{All-cons, All-head, All-tail, All-append}
use Rattle.grd_base.specs.declared.roles.FileRole.{FileRole}
use Rattle.pddl_reader.specs.Forms.{Word}
use Rattle.pddl_reader.specs.Values.{PlainTypedName, PlainTerm, PlainDomain}
use Rattle.pddl_reader.specs.declared.values.Term.{Term}
use Rattle.pddl_reader.specs.Terms.{plain_term}
use Rattle.type_check.specs.declared.faults.TypeKind.{TypeKind}
use Rattle.type_check.specs.declared.faults.TypeKind.TheVariants.{WrongType}
use Rattle.type_check.specs.declared.faults.CheckTypeFault.{CheckTypeFault}
use Rattle.type_check.specs.declared.faults.CheckTypeFault.TheVariants.{Typing}
use Rattle.type_check.specs.Types.{texts, names_of, type_names, FitsTypes}
use Rattle.type_check.specs.Checks.{Check, OneOf, Fits, Passes, fault_at}
use Rattle.type_check.specs.Rules.{find_name, fit_checks, term_checks, terms_checks}
use Rattle.type_check.specs.Tables.{HasFault, HaveKnownTypes}
use Rattle.type_check.specs.Scopes.{named_checks}
use Rattle.type_check.proofs.FirstFaults.{fault_here, fault_second, fault_between, passed_one}

-- what is found among names of which each has a property has it
pub find_holds : (P : PlainTypedName → Type 0) (names : List PlainTypedName) (name : List ℕ) (n : PlainTypedName) → find_name names name ≡ Some n → All P names → P n
find_holds P [] name n found all = absurd (cc)
find_holds P (x ∷ names) name n found all = by (bytes_eq x.name.text name) found (find_holds P names name n)
  where
    by : (b : Bool) → cond b (Some x) (find_name names name) ≡ Some n → (find_name names name ≡ Some n → All P names → P n) → P n
    by true here rest = let same : x ≡ n = cc in subst P same (All-head P x names all)
    by false behind rest = rest behind (All-tail P x names all)

module _ (d : PlainDomain) (missing : TypeKind) (file : FileRole) (declared : List PlainTypedName) (w : Word) (place : PlainTypedName) where
  abbrev pub is_declared : Check
  is_declared = record { need = OneOf (names_of declared) w.text; fault = fault_at missing file w.at }

  abbrev pub fits_place : PlainTypedName → Check
  fits_place n = record { need = Fits (texts n.types) (texts place.types); fault = fault_at WrongType file w.at }

  pub name_missing : (Contains (names_of declared) w.text → ⊥) → HasFault d (named_checks missing file declared w place) (Typing (fault_at missing file w.at))
  unfolding named_checks
  name_missing none = fault_here d is_declared (fit_checks file w (find_name declared w.text) place) none

  pub name_misfits : (n : PlainTypedName) → Contains (names_of declared) w.text → find_name declared w.text ≡ Some n
      → (FitsTypes d (texts n.types) (texts place.types) → ⊥)
      → HasFault d (named_checks missing file declared w place) (Typing (fault_at WrongType file w.at))
  unfolding named_checks
  name_misfits n has found misfits =
      subst (λ o. HasFault d (is_declared ∷ fit_checks file w o place) (Typing (fault_at WrongType file w.at))) (sym found)
      (fault_second d is_declared (fits_place n) [] (Typing (fault_at WrongType file w.at)) has (fault_here d (fits_place n) [] misfits))

  pub name_fits : (n : PlainTypedName) → Contains (names_of declared) w.text → find_name declared w.text ≡ Some n
      → FitsTypes d (texts n.types) (texts place.types)
      → All (Passes d) (named_checks missing file declared w place)
  unfolding named_checks
  name_fits n has found fits =
      subst (λ o. All (Passes d) (is_declared ∷ fit_checks file w o place)) (sym found)
      (All-cons (Passes d) is_declared (fits_place n ∷ []) has (passed_one d (fits_place n) fits))

  pub types_known : (n : PlainTypedName) → find_name declared w.text ≡ Some n → HaveKnownTypes d declared → All (Contains (type_names d)) (texts n.types)
  types_known n found h = find_holds (λ m. All (Contains (type_names d)) (texts m.types)) declared w.text n found h.known

module _ (file : FileRole) (parameters objects : List PlainTypedName) where
  -- terms with their places, and then others
  pub terms_append : (ts : List PlainTerm) (places : List PlainTypedName) → length ts ≡ length places → (more : List PlainTerm) (more_places : List PlainTypedName)
      → terms_checks file parameters objects (ts ++ more) (places ++ more_places)
      ≡ terms_checks file parameters objects ts places ++ terms_checks file parameters objects more more_places
  terms_append [] [] same more more_places = refl
  terms_append [] (p ∷ places) same more more_places = absurd (omega arith)
  terms_append (t ∷ ts) [] same more more_places = absurd (omega arith)
  terms_append (t ∷ ts) (p ∷ places) same more more_places =
      ap (λ zs. term_checks file parameters objects t p ++ zs) (terms_append ts places (omega arith) more more_places)
      ∙ sym (append_assoc (term_checks file parameters objects t p) (terms_checks file parameters objects ts places) (terms_checks file parameters objects more more_places))

  module _ (ts : List PlainTerm) (places : List PlainTypedName) (i : ℕ) (t : PlainTerm) (p : PlainTypedName)
      (within : i < length ts) (within_places : i < length places) (is : t ≡ get_or ts i t) (is_place : p ≡ get_or places i p) where
    same_many : length (take i ts) ≡ length (take i places)
    same_many =
        let many : length (take i ts) ≡ i = length-take-le i ts (omega arith) in
        let many_places : length (take i places) ≡ i = length-take-le i places (omega arith) in
        omega arith

    pub terms_more : terms_checks file parameters objects (take (i + 1) ts) (take (i + 1) places)
        ≡ terms_checks file parameters objects (take i ts) (take i places) ++ term_checks file parameters objects t p
    terms_more =
        ap₂ (terms_checks file parameters objects)
        (take_more ts i t within ∙ ap (λ x. take i ts ++ x ∷ []) (sym is))
        (take_more places i p within_places ∙ ap (λ x. take i places ++ x ∷ []) (sym is_place))
        ∙ terms_append (take i ts) (take i places) same_many (t ∷ []) (p ∷ [])
        ∙ ap (λ zs. terms_checks file parameters objects (take i ts) (take i places) ++ zs) (append-nil (term_checks file parameters objects t p))

    pub terms_parts : terms_checks file parameters objects ts places
        ≡ terms_checks file parameters objects (take i ts) (take i places)
        ++ (term_checks file parameters objects t p ++ terms_checks file parameters objects (drop (i + 1) ts) (drop (i + 1) places))
    terms_parts =
        ap₂ (terms_checks file parameters objects) (sym (take-append-drop i ts)) (sym (take-append-drop i places))
        ∙ terms_append (take i ts) (take i places) same_many (drop i ts) (drop i places)
        ∙ ap₂ (λ rest rest_places. terms_checks file parameters objects (take i ts) (take i places) ++ terms_checks file parameters objects rest rest_places)
        (drop_more ts i t within ∙ ap (λ x. x ∷ drop (i + 1) ts) (sym is))
        (drop_more places i p within_places ∙ ap (λ x. x ∷ drop (i + 1) places) (sym is_place))

    pub terms_passed : (d : PlainDomain) → All (Passes d) (terms_checks file parameters objects (take i ts) (take i places))
        → All (Passes d) (term_checks file parameters objects t p)
        → All (Passes d) (terms_checks file parameters objects (take (i + 1) ts) (take (i + 1) places))
    terms_passed d before here =
        subst (All (Passes d)) (sym terms_more)
        (All-append (Passes d) (terms_checks file parameters objects (take i ts) (take i places)) (term_checks file parameters objects t p) before here)

    pub terms_fault : (d : PlainDomain) (fault : CheckTypeFault) → All (Passes d) (terms_checks file parameters objects (take i ts) (take i places))
        → HasFault d (term_checks file parameters objects t p) fault
        → HasFault d (terms_checks file parameters objects ts places) fault
    terms_fault d fault before here =
        fault_between d (terms_checks file parameters objects ts places) (terms_checks file parameters objects (take i ts) (take i places)) (term_checks file parameters objects t p)
        (terms_checks file parameters objects (drop (i + 1) ts) (drop (i + 1) places)) fault terms_parts before here

-- the next of the terms, with its place
module _ (ts : List Term) (places : List PlainTypedName) (n : ℕ) (t : Term) (p : PlainTypedName)
    (within : n < length ts) (within_places : n < length places) (is : t ≡ get_or ts n t) (is_place : p ≡ get_or places n p) where
  plain_within : n < length (map plain_term ts)
  plain_within = omega (arith, length-map ts plain_term)

  plain_is : plain_term t ≡ get_or (map plain_term ts) n (plain_term t)
  plain_is = ap plain_term is ∙ sym (get_or-map plain_term ts n t (plain_term t) within)

  module _ (file : FileRole) (parameters objects : List PlainTypedName) (d : PlainDomain) where
    pub next_passed : (m : ℕ) → m ≡ n + 1
        → All (Passes d) (terms_checks file parameters objects (take n (map plain_term ts)) (take n places))
        → All (Passes d) (term_checks file parameters objects (plain_term t) p)
        → All (Passes d) (terms_checks file parameters objects (take m (map plain_term ts)) (take m places))
    next_passed m same before here =
        subst (λ k. All (Passes d) (terms_checks file parameters objects (take k (map plain_term ts)) (take k places))) (sym same)
        (terms_passed file parameters objects (map plain_term ts) places n (plain_term t) p plain_within within_places plain_is is_place d before here)

    pub next_fault : (fault : CheckTypeFault)
        → All (Passes d) (terms_checks file parameters objects (take n (map plain_term ts)) (take n places))
        → HasFault d (term_checks file parameters objects (plain_term t) p) fault
        → HasFault d (terms_checks file parameters objects (map plain_term ts) places) fault
    next_fault fault before here =
        terms_fault file parameters objects (map plain_term ts) places n (plain_term t) p plain_within within_places plain_is is_place d fault before here

  pub next_typed : {Y : Type 0} (f : PlainTerm → Y) (y : Y) (m : ℕ) (typed new : List Y) → m ≡ n + 1
      → typed ≡ map f (map plain_term (take n ts)) → y ≡ f (plain_term t) → new ≡ typed ++ y ∷ []
      → new ≡ map f (map plain_term (take m ts))
  next_typed f y m typed new same before here added =
      added ∙ ap₂ (λ front last. front ++ last ∷ []) before here
      ∙ sym (map-append f (map plain_term (take n ts)) (plain_term t ∷ []))
      ∙ ap (map f) (sym (map_more plain_term ts n t within ∙ ap (λ x. map plain_term (take n ts) ++ plain_term x ∷ []) (sym is)))
      ∙ ap (λ k. map f (map plain_term (take k ts))) (sym same)
