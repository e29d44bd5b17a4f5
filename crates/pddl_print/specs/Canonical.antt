-- The canonical text of a domain and of a problem: one spelling for each value, line by line.
use Rattle.std.specs.Prelude.{ℕ, Bool, not, ◌&&◌, List, [], ◌∷◌, ◌++◌, map, codes, if◌then◌else◌}
use Rattle.std.specs.List.{flat_map, list_any}
use Rattle.pddl_reader.specs.Forms.{Word}
use Rattle.pddl_reader.specs.Values.{PlainTypedName, PlainTerm, PlainLiteral, PlainSchema, PlainPredicate, PlainDomain, PlainProblem}
use Rattle.pddl_reader.specs.Values.PlainTerm.{Variable, Constant}
use Rattle.pddl_reader.specs.Classes.{is_equality}

-- each item behind a space
abbrev pub spaced : List (List ℕ) → List ℕ
spaced items = flat_map (λ (item : List ℕ). codes " " ++ item) items

-- the items with single spaces between them
abbrev pub separated : List (List ℕ) → List ℕ
separated [] = []
separated (item ∷ items) = item ++ spaced items

abbrev pub name_text : Word → List ℕ
name_text w = w.text

-- one type, or 'either' of several
abbrev pub type_text : List Word → List ℕ
type_text (t ∷ []) = name_text t
type_text types = codes "(either" ++ spaced (map name_text types) ++ codes ")"

-- a name with its type; `object` is written out
abbrev pub typed_text : PlainTypedName → List ℕ
typed_text n = name_text n.name ++ codes " - " ++ type_text n.types

abbrev pub term_text : PlainTerm → List ℕ
term_text (Variable w) = name_text w
term_text (Constant w) = name_text w

abbrev pub atom_text : PlainLiteral → List ℕ
atom_text l = codes "(" ++ name_text l.predicate ++ spaced (map term_text l.terms) ++ codes ")"

abbrev pub literal_text : PlainLiteral → List ℕ
literal_text l = if l.positive then atom_text l else codes "(not " ++ atom_text l ++ codes ")"

-- all literals behind 'and', also where there is none or one
abbrev pub condition_text : List PlainLiteral → List ℕ
condition_text ls = codes "(and" ++ spaced (map literal_text ls) ++ codes ")"

abbrev pub predicate_text : PlainPredicate → List ℕ
predicate_text p = codes "(" ++ name_text p.name ++ spaced (map typed_text p.parameters) ++ codes ")"

-- four lines
abbrev pub action_text : PlainSchema → List ℕ
action_text a =
    codes "(:action " ++ name_text a.name
    ++ codes "\n:parameters (" ++ separated (map typed_text a.parameters)
    ++ codes ")\n:precondition " ++ condition_text a.pre
    ++ codes "\n:effect " ++ condition_text a.effect ++ codes ")\n"

-- the line of a section with these items; no line where there is none
abbrev pub section_text : List ℕ → List (List ℕ) → List ℕ
section_text keyword [] = []
section_text keyword (item ∷ items) = codes "(" ++ keyword ++ spaced (item ∷ items) ++ codes ")\n"

-- whether the literal is an equality or a negated one, and whether it is a negated atom
abbrev pub is_of_equality : PlainLiteral → Bool
is_of_equality l = is_equality l.predicate.text

abbrev pub is_negated_atom : PlainLiteral → Bool
is_negated_atom l = not l.positive && not (is_of_equality l)

-- whether a precondition of an action has such a literal
abbrev pub has_precondition : (PlainLiteral → Bool) → List PlainSchema → Bool
has_precondition test actions = list_any (λ (a : PlainSchema). list_any test a.pre) actions

-- the requirements of a domain with these actions; negative preconditions and equality where they are used
abbrev pub requirements : List PlainSchema → List (List ℕ)
requirements actions =
    codes ":strips" ∷ codes ":typing"
    ∷ ((if has_precondition is_negated_atom actions then codes ":negative-preconditions" ∷ [] else [])
    ++ (if has_precondition is_of_equality actions then codes ":equality" ∷ [] else []))

abbrev pub domain_text : PlainDomain → List ℕ
domain_text d =
    codes "(define (domain " ++ name_text d.name ++ codes ")\n"
    ++ section_text (codes ":requirements") (requirements d.actions)
    ++ section_text (codes ":types") (map typed_text d.types)
    ++ section_text (codes ":constants") (map typed_text d.constants)
    ++ section_text (codes ":predicates") (map predicate_text d.predicates)
    ++ flat_map action_text d.actions ++ codes ")\n"

-- the goal, which is not kept, is the empty one
abbrev pub problem_text : PlainProblem → List ℕ
problem_text p =
    codes "(define (problem " ++ name_text p.name ++ codes ")\n(:domain " ++ name_text p.domain ++ codes ")\n"
    ++ section_text (codes ":objects") (map typed_text p.objects)
    ++ codes "(:init" ++ spaced (map literal_text p.init) ++ codes ")\n(:goal (and)))\n"
