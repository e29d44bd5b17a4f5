-- Names that pass have types of the domain.
use Rattle.std.proofs.Common.{ℕ, List, [], ◌∷◌, ◌++◌}
use Rattle.std.specs.Prelude.{All, Contains}
use Rattle.std.proofs.lemmas.List.Elements.{All-nil, All-cons, All-head, All-tail, All-append}
use Rattle.grd_base.specs.declared.roles.FileRole.{FileRole}
use Rattle.pddl_reader.specs.Forms.{Word}
use Rattle.pddl_reader.specs.Values.{PlainTypedName, PlainDomain}
use Rattle.type_check.specs.declared.faults.TypeKind.TheVariants.{UnknownType}
use Rattle.type_check.specs.Types.{texts, names_of, type_names}
use Rattle.type_check.specs.Checks.{Check, OneOf, Passes, fault_at}
use Rattle.type_check.specs.Rules.{is_new, are_types, typed_checks}
use Rattle.type_check.specs.Tables.{HaveKnownTypes}
use Rattle.type_check.specs.Parts.{names_rules}
use Rattle.type_check.proofs.Passed.{each_tells}

types_known : (d : PlainDomain) (file : FileRole) (types : List Word) → All (Passes d) (are_types file d types) → All (Contains (type_names d)) (texts types)
types_known d file [] h = All-nil (Contains (type_names d))
types_known d file (t ∷ types) h =
    let check : Check = record { need = OneOf (type_names d) t.text; fault = fault_at UnknownType file t.at } in
    All-cons (Contains (type_names d)) t.text (texts types) (All-head (Passes d) check (are_types file d types) h)
    (types_known d file types (All-tail (Passes d) check (are_types file d types) h))

abbrev IsKnown : PlainDomain → PlainTypedName → Type 0
IsKnown d n = All (Contains (type_names d)) (texts n.types)

pub known_types : (d : PlainDomain) (file : FileRole) (names : List (List ℕ)) (list : List PlainTypedName)
    → All (Passes d) (names_rules file d names list) → HaveKnownTypes d list
unfolding names_rules
known_types d file names list h = record {
  known =
      each_tells d (λ before n. typed_checks file d (names ++ names_of before) n) (IsKnown d)
      (λ before n each. types_known d file n.types (All-tail (Passes d) (is_new file (names ++ names_of before) n.name) (are_types file d n.types) each)) [] list h;
}

pub known_none : (d : PlainDomain) → HaveKnownTypes d []
known_none d = record { known = All-nil (IsKnown d) }

pub known_append : (d : PlainDomain) (front back : List PlainTypedName) → HaveKnownTypes d front → HaveKnownTypes d back → HaveKnownTypes d (front ++ back)
known_append d front back h k = record { known = All-append (IsKnown d) front back h.known k.known }
