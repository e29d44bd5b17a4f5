-- The lists that stand open behind some tokens.
use Rattle.std.specs.Prelude.{◌≡◌, ◌+◌, ◌<◌, ◌≤◌, ◌⊎◌, Option, None, Some, List, [], ◌∷◌, ◌++◌, length, map}
use Rattle.pddl_lexer.specs.declared.token.Token.{Token}
use Rattle.pddl_lexer.specs.declared.faults.TreeFault.{TreeFault}
use Rattle.pddl_lexer.specs.declared.faults.TreeFault.TheVariants.{OutOfMemory}
use Rattle.pddl_lexer.specs.declared.trees.TreeList.{TreeList}
use Rattle.pddl_lexer.specs.declared.trees.Reading.{Reading}
use Rattle.pddl_lexer.specs.Brackets.{IsAtFault, HasNoFault, opens, closes}
use Rattle.pddl_lexer.specs.Trees.{Mark, mark_of, marks_in, marks_of_open}

-- open lists laid flat, the outermost first
abbrev pub marks_open : List TreeList → List Mark
marks_open [] = []
marks_open (l ∷ more) = marks_of_open l ++ marks_open more

abbrev pub marks_done : Option TreeList → List Mark
marks_done None = []
marks_done (Some l) = marks_in l

-- the lists hold these tokens, of which none is at fault
pub record IsRead (seen : List Token) (r : Reading) : Type 0 where
  pub no_fault : HasNoFault seen
  pub deep : opens seen ≡ closes seen + length r.lists.items
  pub shallow : length r.lists.items ≤ 64
  pub marks : marks_done r.done ++ marks_open r.lists.items ≡ map mark_of seen
  pub alone : 0 < length r.lists.items → r.done ≡ None

-- the token is taken behind those that were read
abbrev pub Takes : Reading → Token → Reading → Type 0
Takes old t new = (seen : List Token) → IsRead seen old → IsRead (seen ++ t ∷ []) new

-- the token is at fault behind those that were read
abbrev pub Refuses : Reading → Token → TreeFault → Type 0
Refuses old t e = (e ≡ OutOfMemory) ⊎ ((seen : List Token) → IsRead seen old → IsAtFault seen t e)

-- the item is added to the last list
pub record AddsTo (old new : List TreeList) (marks : List Mark) : Type 0 where
  pub flat : marks_open new ≡ marks_open old ++ marks
  pub same_length : length new ≡ length old
