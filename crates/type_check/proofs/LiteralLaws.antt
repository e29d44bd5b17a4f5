-- The rules of a literal, and what its terms stand for where there are no parameters.
use Rattle.std.proofs.Common.{◌≡◌, ℕ, List, [], ◌∷◌, Some, length, refl, sym, subst}
use Rattle.std.specs.Prelude.{All, Contains}
use Rattle.std.proofs.lemmas.List.Elements.{All-head}
use Rattle.grd_base.specs.declared.roles.FileRole.{FileRole}
use Rattle.pddl_reader.specs.Values.{PlainTypedName, PlainTerm, PlainLiteral, PlainPredicate, PlainDomain}
use Rattle.pddl_reader.specs.Values.PlainTerm.{Variable, Constant}
use Rattle.type_check.specs.declared.faults.CheckTypeFault.{CheckTypeFault}
use Rattle.type_check.specs.declared.faults.CheckTypeFault.TheVariants.{Typing}
use Rattle.type_check.specs.declared.faults.TypeKind.TheVariants.{UnknownPredicate, WrongCount, UnboundVariable}
use Rattle.type_check.specs.declared.typed.TypedTerm.{TypedTerm}
use Rattle.type_check.specs.declared.typed.TypedTerm.TheVariants.{Parameter, Object}
use Rattle.type_check.specs.Types.{names_of, place_in}
use Rattle.type_check.specs.Checks.{Check, OneOf, SameCount, Passes, fault_at}
use Rattle.type_check.specs.Rules.{predicate_names, find_predicate, known_predicates, find_name, fit_checks, term_checks, terms_checks, fitting_checks, literal_checks}
use Rattle.type_check.specs.Typing.{typed_term, term_name}
use Rattle.type_check.specs.Tables.{HasFault}
use Rattle.type_check.proofs.FirstFaults.{fault_here, fault_second, fault_third, passed_third}
use Rattle.type_check.proofs.NameLists.{contains_none}

module _ (d : PlainDomain) (file : FileRole) (parameters objects : List PlainTypedName) (l : PlainLiteral) where
  abbrev is_declared : Check
  is_declared = record { need = OneOf (predicate_names (known_predicates d)) l.predicate.text; fault = fault_at UnknownPredicate file l.predicate.at }

  abbrev has_count : PlainPredicate → Check
  has_count q = record { need = SameCount (length l.terms) (length q.parameters); fault = fault_at WrongCount file l.predicate.at }

  pub predicate_missing : (Contains (predicate_names (known_predicates d)) l.predicate.text → ⊥)
      → HasFault d (literal_checks file d parameters objects l) (Typing (fault_at UnknownPredicate file l.predicate.at))
  predicate_missing none = fault_here d is_declared (fitting_checks file parameters objects l (find_predicate (known_predicates d) l.predicate.text)) none

  module _ (q : PlainPredicate) (has : Contains (predicate_names (known_predicates d)) l.predicate.text) (found : find_predicate (known_predicates d) l.predicate.text ≡ Some q) where
    pub count_differs : (length l.terms ≡ length q.parameters → ⊥)
        → HasFault d (literal_checks file d parameters objects l) (Typing (fault_at WrongCount file l.predicate.at))
    count_differs differs =
        subst (λ o. HasFault d (is_declared ∷ fitting_checks file parameters objects l o) (Typing (fault_at WrongCount file l.predicate.at))) (sym found)
        (fault_second d is_declared (has_count q) (terms_checks file parameters objects l.terms q.parameters) (Typing (fault_at WrongCount file l.predicate.at)) has
        (fault_here d (has_count q) [] differs))

    pub literal_fault : (fault : CheckTypeFault) → length l.terms ≡ length q.parameters
        → HasFault d (terms_checks file parameters objects l.terms q.parameters) fault
        → HasFault d (literal_checks file d parameters objects l) fault
    literal_fault fault count h =
        subst (λ o. HasFault d (is_declared ∷ fitting_checks file parameters objects l o) fault) (sym found)
        (fault_third d is_declared (has_count q) (terms_checks file parameters objects l.terms q.parameters) fault has count h)

    pub literal_passes : length l.terms ≡ length q.parameters
        → All (Passes d) (terms_checks file parameters objects l.terms q.parameters)
        → All (Passes d) (literal_checks file d parameters objects l)
    literal_passes count h =
        subst (λ o. All (Passes d) (is_declared ∷ fitting_checks file parameters objects l o)) (sym found)
        (passed_third d is_declared (has_count q) (terms_checks file parameters objects l.terms q.parameters) has count h)

-- a term that passes where there are no parameters is an object
abbrev pub number_in : TypedTerm → ℕ
number_in (Parameter n) = n
number_in (Object n) = n

pub ground_number : (d : PlainDomain) (file : FileRole) (parameters objects : List PlainTypedName) (t : PlainTerm) (place : PlainTypedName) → parameters ≡ []
    → All (Passes d) (term_checks file parameters objects t place)
    → number_in (typed_term (names_of parameters) (names_of objects) t) ≡ place_in (names_of objects) (term_name t)
ground_number d file parameters objects (Variable w) place none passed =
    let check : Check = record { need = OneOf (names_of parameters) w.text; fault = fault_at UnboundVariable file w.at } in
    let has : Contains (names_of parameters) w.text = All-head (Passes d) check (fit_checks file w (find_name parameters w.text) place) passed in
    absurd (contains_none w.text (subst (λ ps. Contains (names_of ps) w.text) none has))
ground_number d file parameters objects (Constant w) place none passed = refl
