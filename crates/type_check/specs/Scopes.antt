-- What literals are checked against.
use Rattle.std.specs.Prelude.{ℕ, ◌∷◌, List, map}
use Rattle.grd_base.specs.declared.roles.FileRole.{FileRole}
use Rattle.pddl_reader.specs.Forms.{Word}
use Rattle.pddl_reader.specs.Values.{PlainTypedName, PlainTerm, PlainLiteral, PlainDomain}
use Rattle.type_check.specs.declared.faults.TypeKind.{TypeKind}
use Rattle.type_check.specs.declared.typed.TypedTerm.{TypedTerm}
use Rattle.type_check.specs.Types.{names_of, place_in}
use Rattle.type_check.specs.Checks.{Check, OneOf, fault_at}
use Rattle.type_check.specs.Rules.{predicate_names, find_name, fit_checks, term_checks, terms_checks, literal_checks}
use Rattle.type_check.specs.Typing.{typed_term, typed_literal, term_name}
use Rattle.type_check.specs.Values.{PlainTypedLiteral, PlainGroundAtom}

-- the file in which a literal stands, the domain, and the parameters and objects that are seen
pub record PlainScope : Type 0 where
  pub file : FileRole
  pub domain : PlainDomain
  pub parameters : List PlainTypedName
  pub objects : List PlainTypedName

-- a name in a literal: it is declared, and its types fit the place
unfoldable pub named_checks : TypeKind → FileRole → List PlainTypedName → Word → PlainTypedName → List Check
named_checks missing file declared w place =
    record { need = OneOf (names_of declared) w.text; fault = fault_at missing file w.at }
    ∷ fit_checks file w (find_name declared w.text) place

-- the rules of a term, of terms and of a literal in a scope
unfoldable pub term_in : PlainScope → PlainTerm → PlainTypedName → List Check
term_in s t place = term_checks s.file s.parameters s.objects t place

unfoldable pub terms_in : PlainScope → List PlainTerm → List PlainTypedName → List Check
terms_in s terms places = terms_checks s.file s.parameters s.objects terms places

unfoldable pub literal_in : PlainScope → PlainLiteral → List Check
literal_in s l = literal_checks s.file s.domain s.parameters s.objects l

-- what they make there
unfoldable pub typed_in : PlainScope → PlainTerm → TypedTerm
typed_in s t = typed_term (names_of s.parameters) (names_of s.objects) t

unfoldable pub typed_literal_in : PlainScope → PlainLiteral → PlainTypedLiteral
typed_literal_in s l = typed_literal s.domain (names_of s.parameters) (names_of s.objects) l

-- the object that a term names, and an atom by numbers
unfoldable pub object_in : PlainScope → PlainTerm → ℕ
object_in s t = place_in (names_of s.objects) (term_name t)

unfoldable pub atom_in : PlainScope → PlainLiteral → PlainGroundAtom
atom_in s l = record {
  predicate = place_in (predicate_names s.domain.predicates) l.predicate.text;
  objects = map (object_in s) l.terms;
}
