-- The canonical text of a value as words, blanks and brackets: the parts of each value are put before
-- what stands behind them.
use Rattle.std.specs.Prelude.{ℕ, List, [], ◌∷◌, codes, if◌then◌else◌}
use Rattle.pddl_reader.specs.Forms.{Word}
use Rattle.pddl_reader.specs.Values.{PlainTypedName, PlainTerm, PlainLiteral, PlainSchema, PlainPredicate, PlainDomain, PlainProblem}
use Rattle.pddl_reader.specs.Values.PlainTerm.{Variable, Constant}
use Rattle.pddl_print.specs.Canonical.{requirements}
use Rattle.pddl_print.specs.Layouts.{Parts, Blank, Written, Bracketed, Last, Before}

abbrev pub written : List ℕ → Parts → Parts
written text behind = Before (Written text) behind

abbrev pub bracketed : Parts → Parts → Parts
bracketed parts behind = Before (Bracketed parts) behind

-- a space, and a line feed
abbrev pub space : Parts → Parts
space behind = Before (Blank 32) behind

abbrev pub line_end : Parts → Parts
line_end behind = Before (Blank 10) behind

-- the parts of each item, one item behind the other
abbrev pub each_parts : {X : Type 0} → (X → Parts → Parts) → List X → Parts → Parts
each_parts put [] behind = behind
each_parts put (item ∷ items) behind = put item (each_parts put items behind)

-- each item behind a space
abbrev pub spaced_parts : {X : Type 0} → (X → Parts → Parts) → List X → Parts → Parts
spaced_parts put items = each_parts (λ item behind. space (put item behind)) items

-- the items with single spaces between them
abbrev pub separated_parts : {X : Type 0} → (X → Parts → Parts) → List X → Parts → Parts
separated_parts put [] behind = behind
separated_parts put (item ∷ items) behind = put item (spaced_parts put items behind)

abbrev pub name_parts : Word → Parts → Parts
name_parts w behind = written w.text behind

abbrev pub type_parts : List Word → Parts → Parts
type_parts (t ∷ []) behind = name_parts t behind
type_parts types behind = bracketed (written (codes "either") (spaced_parts name_parts types Last)) behind

abbrev pub typed_parts : PlainTypedName → Parts → Parts
typed_parts n behind = name_parts n.name (space (written (codes "-") (space (type_parts n.types behind))))

abbrev pub term_parts : PlainTerm → Parts → Parts
term_parts (Variable w) behind = name_parts w behind
term_parts (Constant w) behind = name_parts w behind

abbrev pub atom_parts : PlainLiteral → Parts → Parts
atom_parts l behind = bracketed (name_parts l.predicate (spaced_parts term_parts l.terms Last)) behind

abbrev pub literal_parts : PlainLiteral → Parts → Parts
literal_parts l behind =
    if l.positive then atom_parts l behind else bracketed (written (codes "not") (space (atom_parts l Last))) behind

abbrev pub condition_parts : List PlainLiteral → Parts → Parts
condition_parts ls behind = bracketed (written (codes "and") (spaced_parts literal_parts ls Last)) behind

abbrev pub predicate_parts : PlainPredicate → Parts → Parts
predicate_parts p behind = bracketed (name_parts p.name (spaced_parts typed_parts p.parameters Last)) behind

-- what stands in the brackets of an action
abbrev pub schema_parts : PlainSchema → Parts → Parts
schema_parts a behind =
    written (codes ":action") (space (name_parts a.name (line_end
    (written (codes ":parameters") (space (bracketed (separated_parts typed_parts a.parameters Last) (line_end
    (written (codes ":precondition") (space (condition_parts a.pre (line_end
    (written (codes ":effect") (space (condition_parts a.effect behind))))))))))))))

abbrev pub action_parts : PlainSchema → Parts → Parts
action_parts a behind = bracketed (schema_parts a Last) (line_end behind)

-- the line of a section with these items; none where there is none
abbrev pub section_parts : {X : Type 0} → List ℕ → (X → Parts → Parts) → List X → Parts → Parts
section_parts keyword put [] behind = behind
section_parts keyword put (item ∷ items) behind =
    bracketed (written keyword (spaced_parts put (item ∷ items) Last)) (line_end behind)

-- a keyword and a name in brackets, and the end of the line
abbrev pub named_parts : List ℕ → Word → Parts → Parts
named_parts keyword w behind = bracketed (written keyword (space (name_parts w Last))) (line_end behind)

-- the sections of a domain that may be left out
abbrev pub sections_parts : PlainDomain → Parts → Parts
sections_parts d behind =
    section_parts (codes ":types") typed_parts d.types
    (section_parts (codes ":constants") typed_parts d.constants
    (section_parts (codes ":predicates") predicate_parts d.predicates
    (each_parts action_parts d.actions behind)))

abbrev pub requirements_parts : List PlainSchema → Parts → Parts
requirements_parts actions behind = section_parts (codes ":requirements") written (requirements actions) behind

-- what stands in the brackets of a domain
abbrev pub domain_parts : PlainDomain → Parts
domain_parts d =
    written (codes "define") (space (named_parts (codes "domain") d.name (requirements_parts d.actions (sections_parts d Last))))

abbrev pub init_parts : PlainProblem → Parts → Parts
init_parts p behind = bracketed (written (codes ":init") (spaced_parts literal_parts p.init Last)) (line_end behind)

abbrev pub goal_parts : Parts → Parts
goal_parts behind = bracketed (written (codes ":goal") (space (condition_parts [] Last))) behind

-- what stands in the brackets of a problem
abbrev pub problem_parts : PlainProblem → Parts
problem_parts p =
    written (codes "define") (space (named_parts (codes "problem") p.name (named_parts (codes ":domain") p.domain
    (section_parts (codes ":objects") typed_parts p.objects (init_parts p (goal_parts Last))))))
