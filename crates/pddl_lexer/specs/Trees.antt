-- The tree of a list of tokens.
use Rattle.std.specs.Prelude.{◌≡◌, ℕ, ◌+◌, max, List, [], ◌∷◌, ◌++◌, map}
use Rattle.pddl_lexer.specs.declared.token.Token.{Token}
use Rattle.pddl_lexer.specs.declared.token.TokenKind.{TokenKind}
use Rattle.pddl_lexer.specs.declared.token.TokenKind.TheVariants.{Open, Close, Word}
use Rattle.pddl_lexer.specs.declared.trees.Item.{Item}
use Rattle.pddl_lexer.specs.declared.trees.TreeList.{TreeList}
use Rattle.pddl_lexer.specs.declared.trees.Item.TheOpen.{Item-F, TreeList-F}
use Rattle.pddl_lexer.specs.declared.trees.Item.TheViews.{out-TreeList}
use Rattle.pddl_lexer.specs.declared.trees.Item.TheFolds.{fold-Item, fold-TreeList}

-- what a tree keeps of a token: a word whole, and of a bracket only where it opens
pub data Mark : Type 0 where
  Opened : ℕ → Mark
  Closed : Mark
  Worded : Token → Mark

abbrev pub mark_by_kind : TokenKind → Token → Mark
mark_by_kind Open t = Opened t.from
mark_by_kind Close t = Closed
mark_by_kind Word t = Worded t

abbrev pub mark_of : Token → Mark
mark_of t = mark_by_kind t.kind t

abbrev pub join : List (List Mark) → List Mark
join [] = []
join (marks ∷ more) = marks ++ join more

abbrev pub marks_of_item : Item-F (List Mark) (List Mark) → List Mark
marks_of_item (Item-F.Word t) = Worded t ∷ []
marks_of_item (Item-F.List marks) = marks

abbrev pub marks_of_list : TreeList-F (List Mark) (List Mark) → List Mark
marks_of_list l = Opened l.at ∷ (join l.items.items ++ Closed ∷ [])

-- a tree laid flat
abbrev pub marks_in : TreeList → List Mark
marks_in = fold-TreeList (List Mark) (List Mark) marks_of_item marks_of_list

abbrev pub marks_at : Item → List Mark
marks_at = fold-Item (List Mark) (List Mark) marks_of_item marks_of_list

-- how deep a tree is: a list without lists in it has depth 1
abbrev pub deepest : List ℕ → ℕ
deepest [] = 0
deepest (n ∷ more) = max n (deepest more)

abbrev pub depth_of_item : Item-F ℕ ℕ → ℕ
depth_of_item (Item-F.Word t) = 0
depth_of_item (Item-F.List n) = n

abbrev pub depth_of_list : TreeList-F ℕ ℕ → ℕ
depth_of_list l = 1 + deepest l.items.items

abbrev pub depth_in : TreeList → ℕ
depth_in = fold-TreeList ℕ ℕ depth_of_item depth_of_list

abbrev pub depth_at : Item → ℕ
depth_at = fold-Item ℕ ℕ depth_of_item depth_of_list

-- the tree, laid flat, gives the tokens back
abbrev pub IsTreeOf : List Token → TreeList → Type 0
IsTreeOf tokens tree = marks_in tree ≡ map mark_of tokens

-- the same of a list whose closing bracket has not come
abbrev pub marks_inside : TreeList → List Mark
marks_inside l = join (map marks_at (out-TreeList l).items.items)

abbrev pub marks_of_open : TreeList → List Mark
marks_of_open l = Opened (out-TreeList l).at ∷ marks_inside l
