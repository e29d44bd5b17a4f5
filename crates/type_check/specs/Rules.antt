-- The checks of a domain and a problem, in the order in which faults are found.
use Rattle.std.specs.Prelude.{ℕ, List, [], ◌∷◌, ◌++◌, length, drop, map, codes, All, Option, Some, None, if◌then◌else◌}
use Rattle.std.specs.List.{flat_map}
use Rattle.std.specs.Str.{bytes_eq}
use Rattle.grd_base.specs.declared.roles.FileRole.{FileRole}
use Rattle.grd_base.specs.declared.roles.FileRole.TheVariants.{Domain, Problem}
use Rattle.pddl_reader.specs.Forms.{Word}
use Rattle.pddl_reader.specs.Values.{PlainTypedName, PlainTerm, PlainLiteral, PlainSchema, PlainPredicate, PlainDomain, PlainProblem}
use Rattle.pddl_reader.specs.Values.PlainTerm.{Variable, Constant}
use Rattle.type_check.specs.declared.faults.TypeFault.{TypeFault}
use Rattle.type_check.specs.declared.faults.TypeKind.TheVariants.{UnknownType, TypeCycle, Doubled, UnknownPredicate, WrongCount, WrongType, UnknownName, UnboundVariable, OtherDomain, TooManyObjects, TooManyParameters, TooManyLiterals}
use Rattle.type_check.specs.Types.{object_type, texts, names_of, entries, type_names}
use Rattle.type_check.specs.Checks.{Check, NoneOf, OneOf, Acyclic, AtMost, SameCount, Fits, Passes, fault_at, IsFirstFault}

-- the checks of each item, given those before it
abbrev pub checks_behind : {X : Type 0} → (List X → X → List Check) → List X → List X → List Check
checks_behind checks before [] = []
checks_behind checks before (x ∷ xs) = checks before x ++ checks_behind checks (before ++ x ∷ []) xs

abbrev pub checks_of_each : {X : Type 0} → (List X → X → List Check) → List X → List Check
checks_of_each checks xs = checks_behind checks [] xs

-- the name is declared for the first time
abbrev pub is_new : FileRole → List (List ℕ) → Word → Check
is_new file names w = record { need = NoneOf names w.text; fault = fault_at Doubled file w.at }

-- each of the types is a type of the domain
abbrev pub are_types : FileRole → PlainDomain → List Word → List Check
are_types file d types = map (λ t. record { need = OneOf (type_names d) t.text; fault = fault_at UnknownType file t.at }) types

-- at most 8 parameters
abbrev pub few_parameters : List PlainTypedName → Word → Check
few_parameters parameters w = record { need = AtMost (length parameters) 8; fault = fault_at TooManyParameters Domain w.at }

-- a declared type: declared for the first time, and not below itself
abbrev pub type_checks : List PlainTypedName → PlainTypedName → List Check
type_checks before n =
    is_new Domain (names_of before) n.name
    ∷ record { need = Acyclic n.name.text; fault = fault_at TypeCycle Domain n.name.at } ∷ []

-- a constant, an object or a parameter: a new name, and known types
abbrev pub typed_checks : FileRole → PlainDomain → List (List ℕ) → PlainTypedName → List Check
typed_checks file d names n = is_new file names n.name ∷ are_types file d n.types

-- typed names behind names that are declared already
abbrev pub names_checks : FileRole → PlainDomain → List (List ℕ) → List PlainTypedName → List Check
names_checks file d names list = checks_of_each (λ before n. typed_checks file d (names ++ names_of before) n) list

abbrev pub predicate_names : List PlainPredicate → List (List ℕ)
predicate_names predicates = map (λ q. q.name.text) predicates

abbrev pub predicate_checks : PlainDomain → List PlainPredicate → PlainPredicate → List Check
predicate_checks d before q =
    is_new Domain (predicate_names before) q.name
    ∷ few_parameters q.parameters q.name
    ∷ names_checks Domain d [] q.parameters

-- the first predicate, or the first typed name, of this name
abbrev pub find_predicate : List PlainPredicate → List ℕ → Option PlainPredicate
find_predicate [] name = None
find_predicate (q ∷ predicates) name = if bytes_eq q.name.text name then Some q else find_predicate predicates name

abbrev pub find_name : List PlainTypedName → List ℕ → Option PlainTypedName
find_name [] name = None
find_name (n ∷ names) name = if bytes_eq n.name.text name then Some n else find_name names name

-- the types of a term that was found fit the place
abbrev pub fit_checks : FileRole → Word → Option PlainTypedName → PlainTypedName → List Check
fit_checks file w None place = []
fit_checks file w (Some n) place = record { need = Fits (texts n.types) (texts place.types); fault = fault_at WrongType file w.at } ∷ []

-- a variable is one of the parameters, a constant one of the objects that are seen; its types fit the place
abbrev pub term_checks : FileRole → List PlainTypedName → List PlainTypedName → PlainTerm → PlainTypedName → List Check
term_checks file parameters objects (Variable w) place =
    record { need = OneOf (names_of parameters) w.text; fault = fault_at UnboundVariable file w.at }
    ∷ fit_checks file w (find_name parameters w.text) place
term_checks file parameters objects (Constant w) place =
    record { need = OneOf (names_of objects) w.text; fault = fault_at UnknownName file w.at }
    ∷ fit_checks file w (find_name objects w.text) place

abbrev pub terms_checks : FileRole → List PlainTypedName → List PlainTypedName → List PlainTerm → List PlainTypedName → List Check
terms_checks file parameters objects (t ∷ terms) (place ∷ places) =
    term_checks file parameters objects t place ++ terms_checks file parameters objects terms places
terms_checks file parameters objects terms places = []

-- the predicate of equalities: its name is `=`, which no declared predicate has, and its two parameters take any object.
-- It is looked up behind the declared ones, for each literal: no text spells an equality but in a precondition
abbrev pub any_object : PlainTypedName
any_object = record { name = record { text = []; at = 0 }; types = record { text = object_type; at = 0 } ∷ [] }

unfoldable pub equality : PlainPredicate
equality = record { name = record { text = codes "="; at = 0 }; parameters = any_object ∷ any_object ∷ [] }

abbrev pub known_predicates : PlainDomain → List PlainPredicate
known_predicates d = d.predicates ++ equality ∷ []

-- the literal has as many terms as its predicate has parameters, and each fits
abbrev pub fitting_checks : FileRole → List PlainTypedName → List PlainTypedName → PlainLiteral → Option PlainPredicate → List Check
fitting_checks file parameters objects l None = []
fitting_checks file parameters objects l (Some q) =
    record { need = SameCount (length l.terms) (length q.parameters); fault = fault_at WrongCount file l.predicate.at }
    ∷ terms_checks file parameters objects l.terms q.parameters

abbrev pub literal_checks : FileRole → PlainDomain → List PlainTypedName → List PlainTypedName → PlainLiteral → List Check
literal_checks file d parameters objects l =
    record { need = OneOf (predicate_names (known_predicates d)) l.predicate.text; fault = fault_at UnknownPredicate file l.predicate.at }
    ∷ fitting_checks file parameters objects l (find_predicate (known_predicates d) l.predicate.text)

-- the literals of a precondition and an effect; of the objects the constants alone are seen
abbrev pub literals_of : PlainSchema → List PlainLiteral
literals_of a = a.pre ++ a.effect

abbrev pub schema_names : List PlainSchema → List (List ℕ)
schema_names actions = map (λ a. a.name.text) actions

-- at most 64 literals
abbrev pub few_literals : PlainSchema → Check
few_literals a = record { need = AtMost (length (literals_of a)) 64; fault = fault_at TooManyLiterals Domain a.name.at }

abbrev pub action_checks : PlainDomain → List PlainSchema → PlainSchema → List Check
action_checks d before a =
    is_new Domain (schema_names before) a.name
    ∷ few_parameters a.parameters a.name
    ∷ (names_checks Domain d [] a.parameters
    ++ few_literals a
    ∷ flat_map (literal_checks Domain d a.parameters d.constants) (literals_of a))

unfoldable pub domain_checks : PlainDomain → List Check
domain_checks d =
    checks_of_each type_checks (entries d)
    ++ names_checks Domain d [] d.constants
    ++ checks_of_each (predicate_checks d) d.predicates
    ++ checks_of_each (action_checks d) d.actions

-- the constants, and then the objects
abbrev pub all_objects : PlainDomain → PlainProblem → List PlainTypedName
all_objects d p = d.constants ++ p.objects

-- each with its file
abbrev pub objects_in_files : PlainDomain → PlainProblem → List (FileRole × PlainTypedName)
objects_in_files d p = map (λ n. (Domain, n)) d.constants ++ map (λ n. (Problem, n)) p.objects

-- at most 1,024 constants and objects; the fault stands at the first that is too many
abbrev pub count_checks : PlainDomain → PlainProblem → List Check
count_checks d p =
    map (λ o. record { need = AtMost (length (all_objects d p)) 1024; fault = fault_at TooManyObjects o.0 o.1.name.at })
    (drop 1024 (objects_in_files d p))

-- the problem is for the domain
abbrev pub is_for_domain : PlainDomain → PlainProblem → Check
is_for_domain d p = record { need = OneOf (d.name.text ∷ []) p.domain.text; fault = fault_at OtherDomain Problem p.domain.at }

unfoldable pub problem_checks : PlainDomain → PlainProblem → List Check
problem_checks d p =
    is_for_domain d p
    ∷ (names_checks Problem d (names_of d.constants) p.objects
    ++ count_checks d p
    ++ flat_map (literal_checks Problem d [] (all_objects d p)) p.init)

unfoldable pub checks_of : PlainDomain → PlainProblem → List Check
checks_of d p = domain_checks d ++ problem_checks d p

-- every rule holds of the domain and the problem
abbrev pub IsWellTyped : PlainDomain → PlainProblem → Type 0
IsWellTyped d p = All (Passes d) (checks_of d p)

-- what is at fault in them
abbrev pub IsTypeFault : PlainDomain → PlainProblem → TypeFault → Type 0
IsTypeFault d p fault = IsFirstFault d (checks_of d p) fault
