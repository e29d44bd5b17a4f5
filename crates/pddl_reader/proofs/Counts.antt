-- A text has no fewer bytes than its list has items, and a list no fewer forms than it gives actions.
use Rattle.std.proofs.Common.{◌≡◌, ℕ, ◌+◌, ◌<◌, ◌≤◌, List, [], ◌∷◌, length, map, refl, sym, ap, ◌∙◌, subst, arith, length-append}
use Rattle.std.specs.List.{flat_map}
use Rattle.std.proofs.lemmas.List.{length-map}
use Rattle.pddl_lexer.specs.declared.token.Token.{Token}
use Rattle.pddl_lexer.specs.declared.trees.Item.{Item}
use Rattle.pddl_lexer.specs.declared.trees.TreeList.{TreeList}
use Rattle.pddl_lexer.specs.declared.trees.Item.TheOpen.{Item-F}
use Rattle.pddl_lexer.specs.declared.trees.Item.TheViews.{out-Item}
use Rattle.pddl_lexer.specs.declared.trees.Item.TheFolds.{map-Item, fold_out-Item}
use Rattle.pddl_lexer.specs.Tokens.{AreSpans}
use Rattle.pddl_lexer.specs.Trees.{Mark, Closed, mark_of, join, marks_of_item, marks_of_list, marks_in, marks_at, marks_inside, IsTreeOf}
use Rattle.pddl_reader.specs.Forms.{Form, Leaf, Group, group, forms_in}
use Rattle.pddl_reader.specs.Sections.{Pairwise, SectionValue, HasRequirements, HasTypes, HasConstants, HasPredicates, HasAction, HasDomain, HasObjects, HasInit, HasGoal, actions_in}
use Rattle.pddl_reader.specs.Spelling.{IsDomain}
use Rattle.pddl_reader.specs.Values.{PlainDomain}
use Rattle.pddl_reader.proofs.ItemLemmas.{forms_in-of, marks_in-list}

spans_count : (at end : ℕ) (tokens : List Token) → AreSpans at end tokens → at + length tokens ≤ end
spans_count at end [] h = omega (arith, h)
spans_count at end (t ∷ tokens) h = omega (arith, h.0, h.1, spans_count t.to end tokens h.2)

layer_some : (i : Item-F Item TreeList) → 0 < length (marks_of_item (map-Item Item TreeList (List Mark) (List Mark) marks_at marks_in i))
layer_some (Item-F.Word t) = omega arith
layer_some (Item-F.List l) = omega (arith, ap length (marks_in-list l))

marks_some : (item : Item) → 0 < length (marks_at item)
marks_some item = subst (λ marks. 0 < length marks) (sym (fold_out-Item (List Mark) (List Mark) marks_of_item marks_of_list item)) (layer_some (out-Item item))

items_count : (items : List Item) → length items ≤ length (join (map marks_at items))
items_count [] = omega arith
items_count (item ∷ items) = omega (arith, marks_some item, items_count items, length-append (marks_at item) (join (map marks_at items)))

pub few_items : (end : ℕ) (tokens : List Token) (l : TreeList) → AreSpans 0 end tokens → IsTreeOf tokens l → length l.items.items ≤ end
few_items end tokens l spans is =
    omega (arith, spans_count 0 end tokens spans, items_count l.items.items, length-append (marks_inside l) (Closed ∷ []), ap length (sym (marks_in-list l) ∙ is), length-map tokens mark_of)

actions_count : (sections : List SectionValue) → length (flat_map actions_in sections) ≤ length sections
actions_count [] = omega arith
actions_count (HasRequirements ∷ rest) = omega (arith, actions_count rest)
actions_count (HasTypes v ∷ rest) = omega (arith, actions_count rest)
actions_count (HasConstants v ∷ rest) = omega (arith, actions_count rest)
actions_count (HasPredicates v ∷ rest) = omega (arith, actions_count rest)
actions_count (HasAction v ∷ rest) = omega (arith, actions_count rest)
actions_count (HasDomain v ∷ rest) = omega (arith, actions_count rest)
actions_count (HasObjects v ∷ rest) = omega (arith, actions_count rest)
actions_count (HasInit v ∷ rest) = omega (arith, actions_count rest)
actions_count (HasGoal ∷ rest) = omega (arith, actions_count rest)

pairs_count : {X Y : Type 0} (R : X → Y → Type 0) (xs : List X) (ys : List Y) → Pairwise R xs ys → length ys ≡ length xs
pairs_count R [] [] h = refl
pairs_count R (x ∷ xs) (y ∷ ys) h = omega (arith, pairs_count R xs ys h.1)
pairs_count R [] (y ∷ ys) h = absurd h
pairs_count R (x ∷ xs) [] h = absurd h

abbrev behind_bracket : Form → List Form
behind_bracket (Leaf w) = []
behind_bracket (Group at forms) = forms_in forms

pub few_actions : (at : ℕ) (forms : List Form) (d : PlainDomain) → IsDomain (group at forms) d → length d.actions ≤ length forms
few_actions at forms d h =
    let whole : forms ≡ Leaf h.document.define ∷ group h.document.head_at (Leaf h.document.head ∷ Leaf d.name ∷ []) ∷ h.document.forms =
    sym (forms_in-of forms) ∙ ap behind_bracket h.document.whole ∙ forms_in-of (Leaf h.document.define ∷ group h.document.head_at (Leaf h.document.head ∷ Leaf d.name ∷ []) ∷ h.document.forms) in
    omega (arith, ap length whole, ap length h.actions, actions_count h.sections, pairs_count _ h.document.forms h.sections h.document.are_sections)
