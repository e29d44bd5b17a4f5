-- What the rules say of equalities: each term fits, and one of a single term is at fault by its count.
use Rattle.std.proofs.Common.{ℕ, List, [], ◌∷◌, Option, Some, None, refl, inl, arith, codes, true}
use Rattle.std.specs.Prelude.{All}
use Rattle.std.proofs.lemmas.List.Elements.{All-nil}
use Rattle.grd_base.specs.declared.roles.FileRole.{FileRole}
use Rattle.grd_base.specs.declared.roles.FileRole.TheVariants.{Domain}
use Rattle.pddl_reader.specs.Forms.{Word}
use Rattle.pddl_reader.specs.Values.{PlainTypedName, PlainLiteral, PlainDomain}
use Rattle.pddl_reader.specs.Values.PlainTerm.{Variable}
use Rattle.type_check.specs.declared.faults.TypeKind.TheVariants.{WrongType, WrongCount}
use Rattle.type_check.specs.Types.{object_type, texts, FitsTypes}
use Rattle.type_check.specs.Checks.{Fits, Passes, IsFirstFault, fault_at}
use Rattle.type_check.specs.Rules.{any_object, equality, fit_checks, literal_checks}
use Rattle.type_check.proofs.FirstFaults.{passed_one}
use Rattle.type_check.proofs.LiteralLaws.{count_differs}

-- each type fits a place for any object, so no term of an equality is of a wrong type
any_types_fit : (d : PlainDomain) (types : List (List ℕ)) → FitsTypes d types (texts any_object.types)
any_types_fit d types k other within = (0, object_type, omega arith, refl, inl refl)

terms_fit : (d : PlainDomain) (file : FileRole) (w : Word) (found : Option PlainTypedName) → All (Passes d) (fit_checks file w found any_object)
terms_fit d file w None = All-nil (Passes d)
terms_fit d file w (Some n) =
    passed_one d (record { need = Fits (texts n.types) (texts any_object.types); fault = fault_at WrongType file w.at }) (any_types_fit d (texts n.types))

-- (= ?x) in a domain that declares nothing
abbrev word : List ℕ → ℕ → Word
word text at = record { text = text; at = at }

abbrev nothing : PlainDomain
nothing = record { name = word (codes "d") 16; types = []; constants = []; predicates = []; actions = [] }

abbrev one_term : PlainLiteral
one_term = record { positive = true; predicate = word (codes "=") 45; terms = Variable (word (codes "?x") 47) ∷ [] }

one_term_fault : IsFirstFault nothing (literal_checks Domain nothing [] [] one_term) (fault_at WrongCount Domain 45)
unfolding equality
one_term_fault = count_differs nothing Domain [] [] one_term equality (0, omega arith, refl) refl (λ same. omega (arith, same))
