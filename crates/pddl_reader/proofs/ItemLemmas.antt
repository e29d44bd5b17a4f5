-- Items of a tree over a text, and their forms.
use Rattle.std.proofs.Common.{◌≡◌, ℕ, List, [], ◌∷◌, ◌++◌, map, refl, sym, ap, ◌∙◌, subst}
use Rattle.pddl_lexer.specs.declared.token.Token.{Token}
use Rattle.pddl_lexer.specs.declared.trees.Item.{Item, map-Item}
use Rattle.pddl_lexer.specs.declared.trees.TreeList.{TreeList}
use Rattle.pddl_lexer.specs.declared.trees.Item.TheOpen.{Item-F}
use Rattle.pddl_lexer.specs.declared.trees.Item.TheViews.{out-Item, out-TreeList}
use Rattle.pddl_lexer.specs.declared.trees.Item.TheFolds.{fold_out-Item, fold_out-TreeList, fold-roll-Item}
use Rattle.pddl_lexer.specs.declared.trees.Item.TheVariants.{List as ListItem, Word as WordItem, rolls-List, rolls-Word}
use Rattle.pddl_lexer.specs.Trees.{Mark, Opened, Closed, Worded, join, marks_in, marks_at, marks_of_item, marks_of_list, marks_inside}
use Rattle.pddl_reader.specs.Forms.{Form, Forms, Leaf, Group, forms_in, forms_of, group, word_of, form_of_item, form_of_list, form_at, form_of, place_of}
use Rattle.pddl_reader.specs.Items.{AreMarksOver, IsItemOver, AreItemsOver, forms_at}

-- a list as forms and back
pub forms_in-of : (forms : List Form) → forms_in (forms_of forms) ≡ forms
forms_in-of [] = refl
forms_in-of (f ∷ forms) = ap (λ fs. f ∷ fs) (forms_in-of forms)

-- marks behind marks
pub over_both : (text : List ℕ) (front back : List Mark) → AreMarksOver text (front ++ back) → AreMarksOver text front × AreMarksOver text back
over_both text [] back h = (tt, h)
over_both text (Opened at ∷ front) back h = over_both text front back h
over_both text (Closed ∷ front) back h = over_both text front back h
over_both text (Worded token ∷ front) back h = let both = over_both text front back h.1 in ((h.0, both.0), both.1)

-- the first of some items, and those behind it
pub over_first : (text : List ℕ) (item : Item) (items : List Item) → AreItemsOver text (item ∷ items) → IsItemOver text item × AreItemsOver text items
over_first text item items h = over_both text (marks_at item) (join (map marks_at items)) h

-- the items of a list
pub marks_in-list : (l : TreeList) → marks_in l ≡ Opened (out-TreeList l).at ∷ (marks_inside l ++ Closed ∷ [])
marks_in-list = fold_out-TreeList (List Mark) (List Mark) marks_of_item marks_of_list

pub marks_at-list : (l : TreeList) → marks_at (ListItem l) ≡ marks_in l
marks_at-list l = ap marks_at (sym (rolls-List l)) ∙ fold-roll-Item (List Mark) (List Mark) marks_of_item marks_of_list (Item-F.List l)

pub over_inside : (text : List ℕ) (l : TreeList) → AreMarksOver text (marks_in l) → AreItemsOver text (out-TreeList l).items.items
over_inside text l h =
    let marks = subst (AreMarksOver text) (marks_in-list l) h in
    (over_both text (marks_inside l) (Closed ∷ []) marks).0

pub form_of-list : (text : List ℕ) (l : TreeList) → form_of text l ≡ group (out-TreeList l).at (forms_at text (out-TreeList l).items.items)
form_of-list text = fold_out-TreeList Form Form (form_of_item text) form_of_list

pub form_at-list : (text : List ℕ) (l : TreeList) → form_at text (ListItem l) ≡ form_of text l
form_at-list text l = ap (form_at text) (sym (rolls-List l)) ∙ fold-roll-Item Form Form (form_of_item text) form_of_list (Item-F.List l)

pub form_at-word : (text : List ℕ) (token : Token) → form_at text (WordItem token) ≡ Leaf (word_of text token)
form_at-word text token = ap (form_at text) (sym (rolls-Word token)) ∙ fold-roll-Item Form Form (form_of_item text) form_of_list (Item-F.Word token)

-- the place of an item, whatever the text
place_in : Item-F Item TreeList → ℕ
place_in (Item-F.Word token) = token.from
place_in (Item-F.List l) = (out-TreeList l).at

place_of-layer : (text : List ℕ) (layer : Item-F Item TreeList) → place_of (form_of_item text (map-Item Item TreeList Form Form (form_at text) (form_of text) layer)) ≡ place_in layer
unfolding place_in
place_of-layer text (Item-F.Word token) = refl
place_of-layer text (Item-F.List l) = ap place_of (form_of-list text l)

place_of-form : (text : List ℕ) (item : Item) → place_of (form_at text item) ≡ place_in (out-Item item)
place_of-form text item =
    ap place_of (fold_out-Item Form Form (form_of_item text) form_of_list item) ∙ place_of-layer text (out-Item item)

pub same_place : (text : List ℕ) (item : Item) → place_of (form_at [] item) ≡ place_of (form_at text item)
same_place text item = place_of-form [] item ∙ sym (place_of-form text item)

-- an item that is a list of these items
module _ (text : List ℕ) (item : Item) (l : TreeList) (items : List Item) (is : item ≡ ListItem l) (has : items ≡ l.items.items) where
  pub list_over : IsItemOver text item → AreItemsOver text items
  list_over h = subst (AreItemsOver text) (sym has) (over_inside text l (subst (AreMarksOver text) (ap marks_at is ∙ marks_at-list l) h))

  pub list_form : form_at text item ≡ group l.at (forms_at text items)
  list_form = ap (form_at text) is ∙ form_at-list text l ∙ form_of-list text l ∙ ap (λ more. group l.at (forms_at text more)) (sym has)

  -- what is read of a list by its forms
  pub at_list : {Y : Type 0} (F : Form → Y) (G : ℕ → List Form → Y) → ((at : ℕ) (forms : Forms) → F (Group at forms) ≡ G at (forms_in forms)) → F (form_at text item) ≡ G l.at (forms_at text items)
  at_list F G h = ap F list_form ∙ h l.at (forms_of (forms_at text items)) ∙ ap (G l.at) (forms_in-of (forms_at text items))
