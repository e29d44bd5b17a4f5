-- What stands first in a list of items, over each text.
use Rattle.std.proofs.Common.{◌≡◌, ℕ, List, [], ◌∷◌, length, inl, inr, refl, sym, ap, ◌∙◌, subst, arith}
use Rattle.pddl_lexer.specs.declared.token.Token.{Token}
use Rattle.pddl_lexer.specs.declared.trees.Item.{Item}
use Rattle.pddl_lexer.specs.declared.trees.Item.TheOpen.{Item-F}
use Rattle.pddl_lexer.specs.declared.trees.Item.TheFolds.{fold-roll-Item}
use Rattle.pddl_lexer.specs.declared.trees.Item.TheVariants.{Word as WordItem, List as ListItem, rolls-Word}
use Rattle.pddl_lexer.specs.declared.trees.TreeList.{TreeList}
use Rattle.pddl_lexer.specs.Trees.{Mark, Worded, marks_at, marks_of_item, marks_of_list}
use Rattle.pddl_reader.specs.Forms.{Leaf, group, word_of, form_at}
use Rattle.pddl_reader.specs.Items.{IsTokenOver, AreMarksOver, IsItemOver, AreItemsOver, forms_at, IsFaultOf}
use Rattle.pddl_reader.specs.Lists.{IsFirstItem, IsFirstWord}
use Rattle.pddl_reader.specs.Reading.{Read, and_then}
use Rattle.pddl_reader.specs.declared.faults.PddlFault.{PddlFault}
use Rattle.pddl_reader.proofs.ItemLemmas.{over_first, form_at-word, list_form}

pub first_item : (items rest : List Item) (item : Item) → items ≡ item ∷ rest → IsFirstItem items item rest
first_item items rest item whole = record {
  whole = whole;
  forms = λ text. ap (forms_at text) whole;
  over_item = λ text h. (over_first text item rest (subst (AreItemsOver text) whole h)).0;
  over_rest = λ text h. (over_first text item rest (subst (AreItemsOver text) whole h)).1;
}

marks_at-word : (t : Token) → marks_at (WordItem t) ≡ Worded t ∷ []
marks_at-word t = ap marks_at (sym (rolls-Word t)) ∙ fold-roll-Item (List Mark) (List Mark) marks_of_item marks_of_list (Item-F.Word t)

pub over_word : (text : List ℕ) (item : Item) (t : Token) → item ≡ WordItem t → IsItemOver text item → IsTokenOver text t
over_word text item t is h = (subst (AreMarksOver text) (ap marks_at is ∙ marks_at-word t) h).0

pub first_word : (items rest : List Item) (item : Item) (t : Token) → IsFirstItem items item rest → item ≡ WordItem t → IsFirstWord items t rest
first_word items rest item t first is = record {
  whole = first.whole ∙ ap (λ i. i ∷ rest) is;
  forms = λ text. first.forms text ∙ ap (λ f. f ∷ forms_at text rest) (ap (form_at text) is ∙ form_at-word text t);
  over_word = λ text h. over_word text item t is (first.over_item text h);
  over_rest = first.over_rest;
}

-- the forms of items of which the first is a word, or a list
pub word_forms : (text : List ℕ) (items rest : List Item) (item : Item) (t : Token) → items ≡ item ∷ rest → item ≡ WordItem t → forms_at text items ≡ Leaf (word_of text t) ∷ forms_at text rest
word_forms text items rest item t whole is = (first_word items rest item t (first_item items rest item whole) is).forms text

pub list_forms : (text : List ℕ) (items rest : List Item) (item : Item) (l : TreeList) → items ≡ item ∷ rest → item ≡ ListItem l → forms_at text items ≡ group l.at (forms_at text l.items.items) ∷ forms_at text rest
list_forms text items rest item l whole is = ap (forms_at text) whole ∙ ap (λ f. f ∷ forms_at text rest) (list_form text item l l.items.items is refl)

pub no_forms : (text : List ℕ) (items : List Item) → length items ≡ 0 → forms_at text items ≡ []
no_forms text [] none = refl
no_forms text (item ∷ items) none = absurd (omega arith)

-- a fault of what is read first
pub fault_first : {A B : Type 0} (read : Read A) (next : A → Read B) (fault : PddlFault) → IsFaultOf read fault → IsFaultOf (and_then read next) fault
fault_first read next fault (inl e) = inl e
fault_first read next fault (inr e) = inr (ap (λ r. and_then r next) e)
