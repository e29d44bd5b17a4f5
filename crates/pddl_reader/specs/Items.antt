-- Items of a tree whose words stand in a text, and what a function answers that reads them.
use Rattle.std.specs.Prelude.{◌≡◌, ℕ, ◌-◌, ◌<◌, ◌≤◌, ◌⊎◌, List, [], ◌∷◌, length, map, take, drop, All, Result, Err}
use Rattle.pddl_lexer.specs.declared.token.Token.{Token}
use Rattle.pddl_lexer.specs.declared.trees.Item.{Item}
use Rattle.pddl_lexer.specs.Trees.{Mark, Opened, Closed, Worded, join, marks_at}
use Rattle.pddl_reader.specs.Forms.{Form, form_at}
use Rattle.pddl_reader.specs.declared.faults.PddlFault.{PddlFault}
use Rattle.pddl_reader.specs.declared.faults.PddlFault.TheVariants.{OutOfMemory}

-- the token is a part of the text, of ASCII
pub record IsTokenOver (text : List ℕ) (token : Token) : Type 0 where
  pub some : token.from < token.to
  pub within : token.to ≤ length text
  pub ascii : All (λ b. b < 128) (take (token.to - token.from) (drop token.from text))

-- each word among the marks is a part of the text
abbrev pub AreMarksOver : List ℕ → List Mark → Type 0
AreMarksOver text [] = Unit {0}
AreMarksOver text (Opened at ∷ marks) = AreMarksOver text marks
AreMarksOver text (Closed ∷ marks) = AreMarksOver text marks
AreMarksOver text (Worded token ∷ marks) = IsTokenOver text token × AreMarksOver text marks

-- each word of the item, or of the items, is a part of the text
abbrev pub IsItemOver : List ℕ → Item → Type 0
IsItemOver text item = AreMarksOver text (marks_at item)

abbrev pub AreItemsOver : List ℕ → List Item → Type 0
AreItemsOver text items = AreMarksOver text (join (map marks_at items))

-- the items of a text as forms
abbrev pub forms_at : List ℕ → List Item → List Form
forms_at text items = map (form_at text) items

-- the fault is what is read, or want of memory
abbrev pub IsFaultOf : {A : Type 0} → Result A PddlFault → PddlFault → Type 0
IsFaultOf read fault = (fault ≡ OutOfMemory) ⊎ (read ≡ Err fault)
