-- Trees that are made of their items.
use Rattle.std.proofs.Common.{◌≡◌, ℕ, ◌+◌, ◌<◌, ◌^◌, List, [], ◌∷◌, ◌++◌, length, map, refl, sym, ap, ◌∙◌, arith, append_assoc}
use Rattle.std.specs.Prelude.{max}
use Rattle.std.specs.declared.alloc.Global.{Global}
use Rattle.std.specs.declared.vec.Vec.{Vec}
use Rattle.std.specs.Ptr.{null_ptr}
use Rattle.pddl_lexer.specs.declared.token.Token.{Token}
use Rattle.pddl_lexer.specs.declared.trees.Item.{Item}
use Rattle.pddl_lexer.specs.declared.trees.TreeList.{TreeList}
use Rattle.pddl_lexer.specs.declared.trees.Item.TheOpen.{Item-F}
use Rattle.pddl_lexer.specs.declared.trees.Item.TheFolds.{fold-roll-Item, fold_out-TreeList}
use Rattle.pddl_lexer.specs.declared.trees.Item.TheVariants.{List as ListItem, Word as WordItem, rolls-List, rolls-Word}
use Rattle.pddl_lexer.specs.Trees.{Mark, Opened, Closed, Worded, join, marks_in, marks_at, marks_of_item, marks_of_list, deepest, depth_of_item, depth_of_list, depth_in, depth_at}
use Rattle.pddl_reader.specs.Forms.{Form, Group, forms_of, group, form_of}
use Rattle.pddl_reader.specs.Items.{forms_at}
use Rattle.pddl_reader.proofs.ItemLemmas.{marks_in-list, form_of-list}
use Rattle.pddl_print.specs.Layouts.{unplaced_form, unplaced_forms}

-- a vector of these items
abbrev pub vec_of : {A : Type 0} (items : List A) → length items < 2 ^ 63 → Vec A Global
vec_of items few = record { ptr = null_ptr; len = length items; cap = length items; alloc = record { memory = record { seal = tt } }; items = items; ok = (refl, omega arith); small = few }

-- a vector holds less than 2^63 items
pub few_items : {A : Type 0} (v : Vec A Global) → length v.items < 2 ^ 63
few_items v = omega (arith, v.ok.0, v.ok.1, v.small)

-- a list of these items, with its place
abbrev pub list_of : ℕ → (items : List Item) → length items < 2 ^ 63 → TreeList
list_of at items few = record { at = at; items = vec_of items few }

-- a word and a list laid flat, and how deep they are
pub marks_at-word : (t : Token) → marks_at (WordItem t) ≡ Worded t ∷ []
marks_at-word t = ap marks_at (sym (rolls-Word t)) ∙ fold-roll-Item (List Mark) (List Mark) marks_of_item marks_of_list (Item-F.Word t)

pub depth_at-word : (t : Token) → depth_at (WordItem t) ≡ 0
depth_at-word t = ap depth_at (sym (rolls-Word t)) ∙ fold-roll-Item ℕ ℕ depth_of_item depth_of_list (Item-F.Word t)

pub depth_at-list : (l : TreeList) → depth_at (ListItem l) ≡ depth_in l
depth_at-list l = ap depth_at (sym (rolls-List l)) ∙ fold-roll-Item ℕ ℕ depth_of_item depth_of_list (Item-F.List l)

pub depth_in-list_of : (at : ℕ) (items : List Item) (few : length items < 2 ^ 63) → depth_in (list_of at items few) ≡ 1 + deepest (map depth_at items)
depth_in-list_of at items few = fold_out-TreeList ℕ ℕ depth_of_item depth_of_list (list_of at items few)

pub marks_in-list_of : (at : ℕ) (items : List Item) (few : length items < 2 ^ 63) → marks_in (list_of at items few) ≡ Opened at ∷ (join (map marks_at items) ++ Closed ∷ [])
marks_in-list_of at items few = marks_in-list (list_of at items few)

-- several items
pub join-append : (xs ys : List (List Mark)) → join (xs ++ ys) ≡ join xs ++ join ys
join-append [] ys = refl
join-append (x ∷ xs) ys = ap (λ ms. x ++ ms) (join-append xs ys) ∙ sym (append_assoc x (join xs) (join ys))

pub deepest-append : (xs ys : List ℕ) → deepest (xs ++ ys) ≡ max (deepest xs) (deepest ys)
deepest-append [] ys = omega arith
deepest-append (x ∷ xs) ys = let rest = deepest-append xs ys in omega (arith, rest)

pub unplaced-forms_of : (forms : List Form) → unplaced_forms (forms_of forms) ≡ forms_of (map unplaced_form forms)
unplaced-forms_of [] = refl
unplaced-forms_of (f ∷ forms) = cc (unplaced-forms_of forms)

-- the form of a list without its places
pub unplaced-list_of : (text : List ℕ) (at : ℕ) (items : List Item) (few : length items < 2 ^ 63) → unplaced_form (form_of text (list_of at items few)) ≡ group 0 (map unplaced_form (forms_at text items))
unplaced-list_of text at items few = ap unplaced_form (form_of-list text (list_of at items few)) ∙ ap (Group 0) (unplaced-forms_of (forms_at text items))
