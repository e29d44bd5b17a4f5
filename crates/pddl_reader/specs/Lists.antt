-- What stands first in a list of items.
use Rattle.std.specs.Prelude.{◌≡◌, ℕ, ◌⊎◌, List, [], ◌∷◌}
use Rattle.pddl_lexer.specs.declared.token.Token.{Token}
use Rattle.pddl_lexer.specs.declared.trees.Item.{Item}
use Rattle.pddl_lexer.specs.declared.trees.Item.TheVariants.{Word as WordItem, List as ListItem}
use Rattle.pddl_lexer.specs.declared.trees.TreeList.{TreeList}
use Rattle.pddl_reader.specs.Forms.{Leaf, word_of, form_at}
use Rattle.pddl_reader.specs.Items.{IsTokenOver, IsItemOver, AreItemsOver, forms_at}
use Rattle.pddl_reader.specs.declared.faults.PddlFault.{PddlFault}
use Rattle.pddl_reader.specs.declared.faults.PddlFault.TheVariants.{Shape}

-- the item stands first and the others behind it, over each text
pub record IsFirstItem (items : List Item) (item : Item) (rest : List Item) : Type 0 where
  pub whole : items ≡ item ∷ rest
  pub forms : (text : List ℕ) → forms_at text items ≡ form_at text item ∷ forms_at text rest
  pub over_item : (text : List ℕ) → AreItemsOver text items → IsItemOver text item
  pub over_rest : (text : List ℕ) → AreItemsOver text items → AreItemsOver text rest

-- the word stands first and the others behind it, over each text
pub record IsFirstWord (items : List Item) (token : Token) (rest : List Item) : Type 0 where
  pub whole : items ≡ WordItem token ∷ rest
  pub forms : (text : List ℕ) → forms_at text items ≡ Leaf (word_of text token) ∷ forms_at text rest
  pub over_word : (text : List ℕ) → AreItemsOver text items → IsTokenOver text token
  pub over_rest : (text : List ℕ) → AreItemsOver text items → AreItemsOver text rest

-- no word stands first in the list at the place: it is empty, or a list stands there
abbrev pub IsHeadWordFault : ℕ → List Item → PddlFault → Type 0
IsHeadWordFault at items fault =
    ((items ≡ []) × (fault ≡ Shape at))
    ⊎ ((l : TreeList) × (rest : List Item) × (items ≡ ListItem l ∷ rest) × (fault ≡ Shape l.at))
