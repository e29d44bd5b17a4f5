-- Atoms, literals and conditions.
use Rattle.std.specs.Prelude.{◌≡◌, ℕ, Bool, true, false, not, ◌⊎◌, IsTrue, List, [], ◌∷◌, ◌++◌, codes, None}
use Rattle.pddl_reader.specs.Forms.{Word, Form, Forms, Leaf, Group, End, Then, group}
use Rattle.pddl_reader.specs.Values.{PlainTerm, PlainLiteral}
use Rattle.pddl_reader.specs.Values.PlainTerm.{Variable, Constant}
use Rattle.pddl_reader.specs.Classes.{is_name, is_variable, takes_negation, is_equality, is_predicate, head_feature}
use Rattle.pddl_reader.specs.declared.kinds.Part.{Part}
use Rattle.pddl_reader.specs.declared.kinds.Part.TheVariants.{Precondition, Effect, Start}

-- the form is the term: a name or, but for the start, a variable
abbrev pub IsTerm : Part → Form → PlainTerm → Type 0
IsTerm part f (Constant w) = (f ≡ Leaf w) × IsTrue (is_name w.text)
IsTerm Precondition f (Variable w) = (f ≡ Leaf w) × IsTrue (is_variable w.text)
IsTerm Effect f (Variable w) = (f ≡ Leaf w) × IsTrue (is_variable w.text)
IsTerm Start f (Variable w) = ⊥

-- one by one
abbrev pub AreTerms : Part → List Form → List PlainTerm → Type 0
AreTerms part [] [] = Unit {0}
AreTerms part (f ∷ forms) (t ∷ terms) = IsTerm part f t × AreTerms part forms terms
AreTerms part forms terms = ⊥

-- whether so many terms may stand behind the predicate: an equality has one or more
abbrev pub has_enough : {T : Type 0} → List ℕ → List T → Bool
has_enough predicate [] = not (is_equality predicate)
has_enough predicate (t ∷ terms) = true

-- the form is an atom of this predicate and these terms, or an equality; no head of a feature is a predicate there
pub record IsAtom (part : Part) (f : Form) (predicate : Word) (terms : List PlainTerm) : Type 0 where
  pub at : ℕ
  pub forms : List Form
  pub whole : f ≡ group at (Leaf predicate ∷ forms)
  pub name : IsTrue (is_predicate part predicate.text)
  pub plain : head_feature part predicate.text ≡ None
  pub enough : IsTrue (has_enough predicate.text forms)
  pub are_terms : AreTerms part forms terms

-- the form is the literal: an atom or, in a precondition or an effect, 'not' and an atom
abbrev pub IsLiteral : Part → Form → PlainLiteral → Type 0
IsLiteral part f l =
    ((l.positive ≡ true) × IsAtom part f l.predicate l.terms)
    ⊎ ((l.positive ≡ false) × IsTrue (takes_negation part)
    × (at : ℕ) × (head : Word) × (inner : Form) × (f ≡ group at (Leaf head ∷ inner ∷ []))
    × (head.text ≡ codes "not") × IsAtom part inner l.predicate l.terms)

-- the form is a condition with these literals in text order: none in '()', those of its conditions
-- behind 'and', or one
abbrev mutual
  pub IsCondition : Part → Form → List PlainLiteral → Type 0
  IsCondition part (Leaf w) ls = ⊥
  IsCondition part (Group at End) ls = ls ≡ []
  IsCondition part (Group at (Then (Group a forms) rest)) ls = ⊥
  IsCondition part (Group at (Then (Leaf w) rest)) ls =
      ((w.text ≡ codes "and") × AreConditions part rest ls)
      ⊎ ((l : PlainLiteral) × (ls ≡ l ∷ []) × IsLiteral part (Group at (Then (Leaf w) rest)) l)

  -- one condition behind the other
  pub AreConditions : Part → Forms → List PlainLiteral → Type 0
  AreConditions part End ls = ls ≡ []
  AreConditions part (Then f rest) ls =
      (front more : List PlainLiteral) × (ls ≡ front ++ more) × IsCondition part f front × AreConditions part rest more

-- the form is an atom that is true at the start
abbrev pub IsStartAtom : Form → PlainLiteral → Type 0
IsStartAtom f l = (l.positive ≡ true) × IsAtom Start f l.predicate l.terms
