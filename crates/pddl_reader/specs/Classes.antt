-- The classes of words, and the words that have a meaning of their own.
use Rattle.std.specs.Prelude.{ℕ, Bool, true, false, not, ◌==◌, ◌&&◌, ◌||◌, List, [], ◌∷◌, codes, Option, Some, None, if◌then◌else◌}
use Rattle.std.specs.List.{list_any, list_all}
use Rattle.std.specs.Str.{bytes_eq}
use Rattle.std.specs.Char.{is_ascii_alphanumeric}
use Rattle.pddl_reader.specs.declared.kinds.Listed.{Listed}
use Rattle.pddl_reader.specs.declared.kinds.Listed.TheVariants.{Names, Variables}
use Rattle.pddl_reader.specs.declared.kinds.Part.{Part}
use Rattle.pddl_reader.specs.declared.kinds.Part.TheVariants.{Precondition, Effect, Start}
use Rattle.pddl_reader.specs.declared.faults.Feature.{Feature}
use Rattle.pddl_reader.specs.declared.faults.Feature.TheVariants.{Functions, Derived, Durative, Constraints, Metric, Disjunction, Implication, Quantifier, Conditional, Preference, NumericEffect, NumericCondition, Equality, NegativeInit}

-- letters, digits, hyphens and underscores
abbrev pub is_name_byte : ℕ → Bool
is_name_byte b = is_ascii_alphanumeric b || b == 45 || b == 95

-- a name does not begin with a hyphen
abbrev pub is_name : List ℕ → Bool
is_name [] = false
is_name (b ∷ bytes) = not (b == 45) && list_all is_name_byte (b ∷ bytes)

-- a question mark and then a name
abbrev pub is_variable : List ℕ → Bool
is_variable [] = false
is_variable (b ∷ bytes) = b == 63 && is_name bytes

-- a colon and then a name
abbrev pub is_keyword : List ℕ → Bool
is_keyword [] = false
is_keyword (b ∷ bytes) = b == 58 && is_name bytes

-- whether the word may stand as an element of a typed list
abbrev pub is_element : Listed → List ℕ → Bool
is_element Names text = is_name text
is_element Variables text = is_variable text

-- whether the text is one of these words
abbrev pub is_one_of : List (List ℕ) → List ℕ → Bool
is_one_of words text = list_any (λ w. bytes_eq w text) words

-- the requirements that are accepted
abbrev pub accepted : List (List ℕ)
accepted = codes ":strips" ∷ codes ":typing" ∷ codes ":equality" ∷ codes ":negative-preconditions" ∷ []

-- the feature that a section's keyword names
abbrev pub section_feature : List ℕ → Option Feature
section_feature text =
    if bytes_eq (codes ":functions") text then Some Functions else
    if is_one_of (codes ":derived" ∷ codes ":axiom" ∷ []) text then Some Derived else
    if bytes_eq (codes ":durative-action") text then Some Durative else
    if bytes_eq (codes ":constraints") text then Some Constraints else
    if is_one_of (codes ":metric" ∷ codes ":length" ∷ []) text then Some Metric else None

-- whether an equality may stand where an atom may; and whether a negation may stand there
abbrev pub takes_equality : Part → Bool
takes_equality Precondition = true
takes_equality Effect = false
takes_equality Start = false

abbrev pub takes_negation : Part → Bool
takes_negation Precondition = true
takes_negation Effect = true
takes_negation Start = false

abbrev pub is_equality : List ℕ → Bool
is_equality text = bytes_eq (codes "=") text

-- the feature that the equality sign names where a condition or an atom may stand, if any
abbrev pub equality_feature : Part → Option Feature
equality_feature Precondition = None
equality_feature Effect = Some Equality
equality_feature Start = Some NumericCondition

-- the feature that 'not' names there, if any
abbrev pub not_feature : Part → Option Feature
not_feature Precondition = None
not_feature Effect = None
not_feature Start = Some NegativeInit

-- the feature that the head of a list names where a condition or an atom may stand
abbrev pub head_feature : Part → List ℕ → Option Feature
head_feature part text =
    if bytes_eq (codes "or") text then Some Disjunction else
    if bytes_eq (codes "imply") text then Some Implication else
    if is_one_of (codes "forall" ∷ codes "exists" ∷ []) text then Some Quantifier else
    if bytes_eq (codes "when") text then Some Conditional else
    if bytes_eq (codes "preference") text then Some Preference else
    if is_one_of (codes "increase" ∷ codes "decrease" ∷ codes "assign" ∷ codes "scale-up" ∷ codes "scale-down" ∷ []) text then Some NumericEffect else
    if is_one_of (codes "<" ∷ codes ">" ∷ codes "<=" ∷ codes ">=" ∷ []) text then Some NumericCondition else
    if is_equality text then equality_feature part else
    if bytes_eq (codes "not") text then not_feature part else None

-- whether the text may be the name of an atom's predicate: a name other than 'and' and 'not'
abbrev pub is_predicate_name : List ℕ → Bool
is_predicate_name text = is_name text && not (is_one_of (codes "and" ∷ codes "not" ∷ []) text)

-- whether the word may be the predicate of an atom in the part: such a name or, where an equality may stand, its sign
abbrev pub is_predicate : Part → List ℕ → Bool
is_predicate part text = is_predicate_name text || (takes_equality part && is_equality text)
