-- The values of sections, one behind the other.
use Rattle.std.proofs.Common.{◌≡◌, Bool, true, false, ◌||◌, List, [], ◌∷◌, ◌++◌, map, refl, sym, ap, ◌∙◌}
use Rattle.std.specs.List.{flat_map, list_any}
use Rattle.std.proofs.lemmas.Bool.{false≢true}
use Rattle.std.proofs.lemmas.List.Folds.{list_any-append}
use Rattle.pddl_reader.specs.declared.kinds.SectionKind.{SectionKind}
use Rattle.pddl_reader.specs.declared.kinds.SectionKind.TheVariants.{Types, Constants, Predicates, Domain, Objects, Init}
use Rattle.pddl_reader.specs.Reading.{same_kind}
use Rattle.pddl_reader.specs.Sections.{SectionValue, HasRequirements, HasTypes, HasConstants, HasPredicates, HasAction, HasDomain, HasObjects, HasInit, HasGoal, kind_of, types_in, constants_in, section_predicates_in, domains_in, objects_in, init_in}
use Rattle.pddl_reader.proofs.Gathered.{or_false, or_false_right}

-- nothing is gathered from sections of other kinds
nothing_in : {A : Type 0} (f : SectionValue → List A) (kind : SectionKind) → ((s : SectionValue) → same_kind kind (kind_of s) ≡ false → f s ≡ [])
    → (seen : List SectionValue) → list_any (same_kind kind) (map kind_of seen) ≡ false → flat_map f seen ≡ []
nothing_in f kind only [] h = refl
nothing_in f kind only (s ∷ seen) h =
    let both = or_false (same_kind kind (kind_of s)) (list_any (same_kind kind) (map kind_of seen)) h in
    ap (λ xs. xs ++ flat_map f seen) (only s both.0) ∙ nothing_in f kind only seen both.1

types_only : (s : SectionValue) → same_kind Types (kind_of s) ≡ false → types_in s ≡ []
types_only HasRequirements e = refl
types_only (HasTypes names) e = absurd (false≢true (sym e))
types_only (HasConstants names) e = refl
types_only (HasPredicates predicates) e = refl
types_only (HasAction action) e = refl
types_only (HasDomain name) e = refl
types_only (HasObjects names) e = refl
types_only (HasInit atoms) e = refl
types_only HasGoal e = refl

pub no_types : (seen : List SectionValue) → list_any (same_kind Types) (map kind_of seen) ≡ false → flat_map types_in seen ≡ []
no_types = nothing_in types_in Types types_only

constants_only : (s : SectionValue) → same_kind Constants (kind_of s) ≡ false → constants_in s ≡ []
constants_only HasRequirements e = refl
constants_only (HasTypes names) e = refl
constants_only (HasConstants names) e = absurd (false≢true (sym e))
constants_only (HasPredicates predicates) e = refl
constants_only (HasAction action) e = refl
constants_only (HasDomain name) e = refl
constants_only (HasObjects names) e = refl
constants_only (HasInit atoms) e = refl
constants_only HasGoal e = refl

pub no_constants : (seen : List SectionValue) → list_any (same_kind Constants) (map kind_of seen) ≡ false → flat_map constants_in seen ≡ []
no_constants = nothing_in constants_in Constants constants_only

predicates_only : (s : SectionValue) → same_kind Predicates (kind_of s) ≡ false → section_predicates_in s ≡ []
predicates_only HasRequirements e = refl
predicates_only (HasTypes names) e = refl
predicates_only (HasConstants names) e = refl
predicates_only (HasPredicates predicates) e = absurd (false≢true (sym e))
predicates_only (HasAction action) e = refl
predicates_only (HasDomain name) e = refl
predicates_only (HasObjects names) e = refl
predicates_only (HasInit atoms) e = refl
predicates_only HasGoal e = refl

pub no_predicates : (seen : List SectionValue) → list_any (same_kind Predicates) (map kind_of seen) ≡ false → flat_map section_predicates_in seen ≡ []
no_predicates = nothing_in section_predicates_in Predicates predicates_only

domains_only : (s : SectionValue) → same_kind Domain (kind_of s) ≡ false → domains_in s ≡ []
domains_only HasRequirements e = refl
domains_only (HasTypes names) e = refl
domains_only (HasConstants names) e = refl
domains_only (HasPredicates predicates) e = refl
domains_only (HasAction action) e = refl
domains_only (HasDomain name) e = absurd (false≢true (sym e))
domains_only (HasObjects names) e = refl
domains_only (HasInit atoms) e = refl
domains_only HasGoal e = refl

pub no_domains : (seen : List SectionValue) → list_any (same_kind Domain) (map kind_of seen) ≡ false → flat_map domains_in seen ≡ []
no_domains = nothing_in domains_in Domain domains_only

objects_only : (s : SectionValue) → same_kind Objects (kind_of s) ≡ false → objects_in s ≡ []
objects_only HasRequirements e = refl
objects_only (HasTypes names) e = refl
objects_only (HasConstants names) e = refl
objects_only (HasPredicates predicates) e = refl
objects_only (HasAction action) e = refl
objects_only (HasDomain name) e = refl
objects_only (HasObjects names) e = absurd (false≢true (sym e))
objects_only (HasInit atoms) e = refl
objects_only HasGoal e = refl

pub no_objects : (seen : List SectionValue) → list_any (same_kind Objects) (map kind_of seen) ≡ false → flat_map objects_in seen ≡ []
no_objects = nothing_in objects_in Objects objects_only

init_only : (s : SectionValue) → same_kind Init (kind_of s) ≡ false → init_in s ≡ []
init_only HasRequirements e = refl
init_only (HasTypes names) e = refl
init_only (HasConstants names) e = refl
init_only (HasPredicates predicates) e = refl
init_only (HasAction action) e = refl
init_only (HasDomain name) e = refl
init_only (HasObjects names) e = refl
init_only (HasInit atoms) e = absurd (false≢true (sym e))
init_only HasGoal e = refl

pub no_init : (seen : List SectionValue) → list_any (same_kind Init) (map kind_of seen) ≡ false → flat_map init_in seen ≡ []
no_init = nothing_in init_in Init init_only

-- whether ':init' comes, with one more section
starts_with_more : (seen : List SectionValue) (s : SectionValue) → list_any (λ t. same_kind (kind_of t) Init) (seen ++ s ∷ []) ≡ (list_any (λ t. same_kind (kind_of t) Init) seen || (same_kind (kind_of s) Init || false))
starts_with_more seen s = list_any-append (λ t. same_kind (kind_of t) Init) seen (s ∷ [])

pub no_start : (seen : List SectionValue) (s : SectionValue) (b : Bool) → b ≡ list_any (λ t. same_kind (kind_of t) Init) seen → same_kind (kind_of s) Init ≡ false → b ≡ list_any (λ t. same_kind (kind_of t) Init) (seen ++ s ∷ [])
no_start seen s b e other =
    e ∙ sym (starts_with_more seen s ∙ ap (λ c. list_any (λ t. same_kind (kind_of t) Init) seen || (c || false)) other ∙ or_false_right (list_any (λ t. same_kind (kind_of t) Init) seen))

pub a_start : (seen : List SectionValue) (s : SectionValue) → same_kind (kind_of s) Init ≡ true → true ≡ list_any (λ t. same_kind (kind_of t) Init) (seen ++ s ∷ [])
a_start seen s e =
    sym (starts_with_more seen s ∙ ap (λ c. list_any (λ t. same_kind (kind_of t) Init) seen || (c || false)) e ∙ at_true (list_any (λ t. same_kind (kind_of t) Init) seen))
  where
    at_true : (b : Bool) → (b || true) ≡ true
    at_true true = refl
    at_true false = refl
