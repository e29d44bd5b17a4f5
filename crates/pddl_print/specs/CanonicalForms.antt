-- The canonical text of a value as a tree of words, with the place 0 everywhere.
use Rattle.std.specs.Prelude.{ℕ, List, [], ◌∷◌, ◌++◌, map, codes, if◌then◌else◌}
use Rattle.std.specs.List.{flat_map}
use Rattle.pddl_reader.specs.Forms.{Word, Form, Leaf, group}
use Rattle.pddl_reader.specs.Values.{PlainTypedName, PlainTerm, PlainLiteral, PlainSchema, PlainPredicate, PlainDomain, PlainProblem}
use Rattle.pddl_reader.specs.Values.PlainTerm.{Variable, Constant}
use Rattle.pddl_print.specs.Canonical.{requirements}

abbrev pub word : List ℕ → Form
word text = Leaf (record { text = text; at = 0 })

abbrev pub name_form : Word → Form
name_form w = word w.text

abbrev pub type_form : List Word → Form
type_form (t ∷ []) = name_form t
type_form types = group 0 (word (codes "either") ∷ map name_form types)

abbrev pub typed_forms : PlainTypedName → List Form
typed_forms n = name_form n.name ∷ word (codes "-") ∷ type_form n.types ∷ []

abbrev pub term_form : PlainTerm → Form
term_form (Variable w) = name_form w
term_form (Constant w) = name_form w

abbrev pub atom_form : PlainLiteral → Form
atom_form l = group 0 (name_form l.predicate ∷ map term_form l.terms)

abbrev pub literal_form : PlainLiteral → Form
literal_form l = if l.positive then atom_form l else group 0 (word (codes "not") ∷ atom_form l ∷ [])

abbrev pub condition_form : List PlainLiteral → Form
condition_form ls = group 0 (word (codes "and") ∷ map literal_form ls)

abbrev pub predicate_form : PlainPredicate → Form
predicate_form p = group 0 (name_form p.name ∷ flat_map typed_forms p.parameters)

abbrev pub action_form : PlainSchema → Form
action_form a = group 0 (word (codes ":action") ∷ name_form a.name
    ∷ word (codes ":parameters") ∷ group 0 (flat_map typed_forms a.parameters)
    ∷ word (codes ":precondition") ∷ condition_form a.pre
    ∷ word (codes ":effect") ∷ condition_form a.effect ∷ [])

-- a section with these forms; none where there are none
abbrev pub section_forms : List ℕ → List Form → List Form
section_forms keyword [] = []
section_forms keyword (f ∷ forms) = group 0 (word keyword ∷ f ∷ forms) ∷ []

abbrev pub requirements_form : List PlainSchema → Form
requirements_form actions = group 0 (word (codes ":requirements") ∷ map word (requirements actions))

abbrev pub domain_form : PlainDomain → Form
domain_form d = group 0 (word (codes "define") ∷ group 0 (word (codes "domain") ∷ name_form d.name ∷ [])
    ∷ requirements_form d.actions
    ∷ (section_forms (codes ":types") (flat_map typed_forms d.types)
    ++ section_forms (codes ":constants") (flat_map typed_forms d.constants)
    ++ section_forms (codes ":predicates") (map predicate_form d.predicates)
    ++ map action_form d.actions))

abbrev pub problem_form : PlainProblem → Form
problem_form p = group 0 (word (codes "define") ∷ group 0 (word (codes "problem") ∷ name_form p.name ∷ [])
    ∷ group 0 (word (codes ":domain") ∷ name_form p.domain ∷ [])
    ∷ (section_forms (codes ":objects") (flat_map typed_forms p.objects)
    ++ group 0 (word (codes ":init") ∷ map literal_form p.init)
    ∷ group 0 (word (codes ":goal") ∷ condition_form [] ∷ []) ∷ []))
