-- A text as a tree of words.
use Rattle.std.specs.Prelude.{ℕ, ◌-◌, List, [], ◌∷◌, take, drop}
use Rattle.std.specs.Str.{str_to_ascii_lowercase}
use Rattle.pddl_lexer.specs.declared.token.Token.{Token}
use Rattle.pddl_lexer.specs.declared.trees.Item.{Item}
use Rattle.pddl_lexer.specs.declared.trees.TreeList.{TreeList}
use Rattle.pddl_lexer.specs.declared.trees.Item.TheOpen.{Item-F, TreeList-F}
use Rattle.pddl_lexer.specs.declared.trees.Item.TheFolds.{fold-Item, fold-TreeList}

-- a word: its bytes, folded to lower case, and the place of its first byte, counted from 0
pub record Word : Type 0 where
  pub text : List ℕ
  pub at : ℕ

-- a form is a word, or forms in brackets with the place of the opening one
mutual
  pub data Form : Type 0 where
    Leaf : Word → Form
    Group : ℕ → Forms → Form

  pub data Forms : Type 0 where
    End : Forms
    Then : Form → Forms → Forms

-- forms as a list, both ways
abbrev pub forms_in : Forms → List Form
forms_in End = []
forms_in (Then f rest) = f ∷ forms_in rest

abbrev pub forms_of : List Form → Forms
forms_of [] = End
forms_of (f ∷ rest) = Then f (forms_of rest)

-- forms in brackets
abbrev pub group : ℕ → List Form → Form
group at forms = Group at (forms_of forms)

-- the place of a form: of a word's first byte, or of the opening bracket
abbrev pub place_of : Form → ℕ
place_of (Leaf w) = w.at
place_of (Group at forms) = at

-- the word of a token
abbrev pub word_of : List ℕ → Token → Word
word_of text token = record {
  text = str_to_ascii_lowercase (take (token.to - token.from) (drop token.from text));
  at = token.from;
}

abbrev pub form_of_item : List ℕ → Item-F Form Form → Form
form_of_item text (Item-F.Word token) = Leaf (word_of text token)
form_of_item text (Item-F.List form) = form

abbrev pub form_of_list : TreeList-F Form Form → Form
form_of_list list = group list.at list.items.items

-- the form of an item of a tree over the text
abbrev pub form_at : List ℕ → Item → Form
form_at text = fold-Item Form Form (form_of_item text) form_of_list

-- the form of a tree over the text
abbrev pub form_of : List ℕ → TreeList → Form
form_of text = fold-TreeList Form Form (form_of_item text) form_of_list
