-- What is known of the constants and objects of well-typed files.
use Rattle.std.proofs.Common.{◌≡◌, ℕ, ◌-◌, ◌<◌, ◌≤◌, List, [], ◌∷◌, ◌++◌, length, map, drop, get_or, sym, ap, ◌∙◌, subst, arith, length-append}
use Rattle.std.specs.Prelude.{All, Contains}
use Rattle.std.proofs.lemmas.List.{length-map, length-drop}
use Rattle.std.proofs.lemmas.List.Elements.{All-head, All-tail, All-append}
use Rattle.grd_base.specs.declared.roles.FileRole.{FileRole}
use Rattle.grd_base.specs.declared.roles.FileRole.TheVariants.{Domain, Problem}
use Rattle.pddl_reader.specs.Forms.{Word}
use Rattle.pddl_reader.specs.Values.{PlainTypedName, PlainDomain, PlainProblem}
use Rattle.type_check.specs.Types.{first_type, type_of, type_names, names_of}
use Rattle.type_check.specs.declared.faults.TypeKind.TheVariants.{TooManyObjects}
use Rattle.type_check.specs.Checks.{AtMost, Passes, fault_at}
use Rattle.type_check.specs.Rules.{are_types, typed_checks, names_checks, is_new, all_objects, objects_in_files, IsWellTyped}
use Rattle.type_check.specs.Tables.{PlainFiles}
use Rattle.type_check.proofs.TypeLaws.{object_known}
use Rattle.type_check.proofs.Passed.{each_tells, constants_pass, objects_pass, counts_pass}

-- ---- known types

abbrev IsKnown : PlainDomain → PlainTypedName → Type 0
IsKnown d n = Contains (type_names d) (type_of n)

known_type : (d : PlainDomain) (file : FileRole) (types : List Word) → All (Passes d) (are_types file d types) → Contains (type_names d) (first_type types)
known_type d file [] h = object_known d
known_type d file (t ∷ types) h = All-head (Passes d) _ (are_types file d types) h

known_names : (d : PlainDomain) (file : FileRole) (names : List (List ℕ)) (list : List PlainTypedName) → All (Passes d) (names_checks file d names list) → All (IsKnown d) list
known_names d file names list h =
    each_tells d (λ before n. typed_checks file d (names ++ names_of before) n) (IsKnown d)
    (λ before n each. known_type d file n.types (All-tail (Passes d) (is_new file (names ++ names_of before) n.name) (are_types file d n.types) each)) [] list h

module _ (d : PlainDomain) (p : PlainProblem) (well : IsWellTyped d p) where
  -- the type of each constant and object is a type of the domain
  pub known_objects : All (λ n. Contains (type_names d) (type_of n)) (all_objects d p)
  known_objects =
      All-append (IsKnown d) d.constants p.objects
      (known_names d Domain [] d.constants (constants_pass d p well)) (known_names d Problem (names_of d.constants) p.objects (objects_pass d p well))

-- ---- few objects

-- where some are too many, the first of them is not passed
few_behind : (d : PlainDomain) (count : ℕ) (behind : List (FileRole × PlainTypedName)) → length behind ≡ count - 1024
    → All (Passes d) (map (λ o. record { need = AtMost count 1024; fault = fault_at TooManyObjects o.0 o.1.name.at }) behind) → count ≤ 1024
few_behind d count [] many h = omega (arith, many)
few_behind d count (o ∷ behind) many h =
    All-head (Passes d) _ (map (λ o. record { need = AtMost count 1024; fault = fault_at TooManyObjects o.0 o.1.name.at }) behind) h

pub few_objects : (d : PlainDomain) (p : PlainProblem) → IsWellTyped d p → length (all_objects d p) ≤ 1024
few_objects d p well =
    let in_domain : PlainTypedName → FileRole × PlainTypedName = λ n. (Domain, n) in
    let in_problem : PlainTypedName → FileRole × PlainTypedName = λ n. (Problem, n) in
    let same : length (objects_in_files d p) ≡ length (all_objects d p) =
    omega (arith, length-append (map in_domain d.constants) (map in_problem p.objects), length-append d.constants p.objects, length-map d.constants in_domain, length-map p.objects in_problem) in
    few_behind d (length (all_objects d p)) (drop 1024 (objects_in_files d p))
    (length-drop 1024 (objects_in_files d p) ∙ ap (λ n. n - 1024) same) (counts_pass d p well)

-- ---- a walk over the constants and then the objects of files

pub all_walked : (f : PlainFiles) (d : PlainDomain) (p : PlainProblem) (constants objects : List PlainTypedName) → record { domain = d; problem = p } ≡ f → constants ≡ d.constants → objects ≡ p.objects
    → constants ++ objects ≡ all_objects f.domain f.problem
all_walked f d p constants objects same same_constants same_objects = cc

-- an object that a walk over the constants and the objects meets has a known type
pub known_at : (d types : PlainDomain) (p : PlainProblem) (constants objects : List PlainTypedName) → types ≡ d → constants ≡ d.constants → objects ≡ p.objects → IsWellTyped d p
    → (o : PlainTypedName) (i : ℕ) → i < length (constants ++ objects) → o ≡ get_or (constants ++ objects) i o → Contains (type_names types) (type_of o)
known_at d types p constants objects same_types same_constants same_objects well o i within is =
    let all : constants ++ objects ≡ all_objects d p = cc in
    subst (λ t. Contains (type_names t) (type_of o)) (sym same_types)
    (subst (IsKnown d) (sym is) (subst (All (IsKnown d)) (sym all) (known_objects d p well) i o within))

-- and stands before 1,024 of them
pub few_before : (d : PlainDomain) (p : PlainProblem) (constants objects : List PlainTypedName) → constants ≡ d.constants → objects ≡ p.objects → IsWellTyped d p
    → (i : ℕ) → i < length (constants ++ objects) → i < 1024
few_before d p constants objects same_constants same_objects well i within =
    let all : constants ++ objects ≡ all_objects d p = cc in
    omega (arith, few_objects d p well, ap length all)
