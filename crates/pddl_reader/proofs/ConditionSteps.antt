-- A condition, as it is read item by item.
use Rattle.std.proofs.Common.{◌≡◌, ℕ, ◌+◌, ◌<◌, true, false, List, [], ◌∷◌, ◌++◌, length, codes, get_or, drop, Some, Ok, Err, sym, ap, ◌∙◌, cond}
use Rattle.std.specs.Prelude.{slice_get}
use Rattle.std.specs.Str.{bytes_eq}
use Rattle.pddl_lexer.specs.declared.token.Token.{Token}
use Rattle.pddl_lexer.specs.declared.trees.Item.{Item}
use Rattle.pddl_lexer.specs.declared.trees.TreeList.{TreeList}
use Rattle.pddl_lexer.specs.declared.trees.Item.TheVariants.{List as ListItem, Word as WordItem}
use Rattle.pddl_reader.specs.Forms.{Form, Leaf, forms_in, forms_of, group, word_of, form_at, place_of}
use Rattle.pddl_reader.specs.Items.{forms_at}
use Rattle.pddl_reader.specs.Values.{PlainLiteral}
use Rattle.pddl_reader.specs.Steps.{behind}
use Rattle.pddl_reader.specs.Reading.{Read, and_then, atom_at, negative_of, negation_in, literal_in, condition_at, conditions_at}
use Rattle.pddl_reader.specs.declared.kinds.Part.{Part}
use Rattle.pddl_reader.specs.declared.faults.PddlFault.{PddlFault}
use Rattle.pddl_reader.specs.declared.faults.PddlFault.TheVariants.{Shape}
use Rattle.pddl_reader.proofs.ItemLemmas.{forms_in-of, form_at-word, list_form}
use Rattle.pddl_reader.proofs.ReadLemmas.{behind-append, drop-next}

-- a list whose first item is a word
module _ (part : Part) (text : List ℕ) (item : Item) (l : TreeList) (items : List Item) (is : item ≡ ListItem l) (has : items ≡ l.items.items)
    (first : Item) (rest : List Item) (head : Token) (begins : items ≡ first ∷ rest) (is_head : first ≡ WordItem head) where
  headed : form_at text item ≡ group l.at (Leaf (word_of text head) ∷ forms_at text rest)
  headed =
      list_form text item l items is has ∙ ap (λ more. group l.at (forms_at text more)) begins
      ∙ ap (λ f. group l.at (f ∷ forms_at text rest)) (ap (form_at text) is_head ∙ form_at-word text head)

  pub and_in : true ≡ bytes_eq (codes "and") (word_of text head).text → condition_at part (form_at text item) ≡ conditions_at part (forms_of (forms_at text rest))
  and_in is_and =
      ap (condition_at part) headed
      ∙ ap (λ b. cond b (conditions_at part (forms_of (forms_at text rest))) (literal_in part l.at (word_of text head) (forms_in (forms_of (forms_at text rest))))) (sym is_and)

  pub literal_is : false ≡ bytes_eq (codes "and") (word_of text head).text → condition_at part (form_at text item) ≡ literal_in part l.at (word_of text head) (forms_at text rest)
  literal_is other =
      ap (condition_at part) headed
      ∙ ap (λ b. cond b (conditions_at part (forms_of (forms_at text rest))) (literal_in part l.at (word_of text head) (forms_in (forms_of (forms_at text rest))))) (sym other)
      ∙ ap (literal_in part l.at (word_of text head)) (forms_in-of (forms_at text rest))

-- some are read in front of what is read of the rest
behind_first : (found more : List PlainLiteral) (first rest : Read (List PlainLiteral)) → behind found first ≡ Ok more → behind found (and_then first (λ ls. and_then rest (λ others. Ok (ls ++ others)))) ≡ behind more rest
behind_first found more (Ok ls) rest e =
    let same : found ++ ls ≡ more = cc in
    behind-append found ls rest ∙ ap (λ xs. behind xs rest) same
behind_first found more (Err fault) rest e = absurd cc

-- the next of some conditions is read, or is at fault
module _ (part : Part) (text : List ℕ) (items : List Item) (i : ℕ) (item : Item) (within : i < length items) (is : item ≡ get_or items i item) where
  pub next_condition : (found more : List PlainLiteral) → behind found (condition_at part (form_at text item)) ≡ Ok more → behind found (conditions_at part (forms_of (forms_at text (drop i items)))) ≡ behind more (conditions_at part (forms_of (forms_at text (drop (i + 1) items))))
  next_condition found more e =
      ap (λ more. behind found (conditions_at part (forms_of (forms_at text more)))) (drop-next items i item within is)
      ∙ behind_first found more (condition_at part (form_at text item)) (conditions_at part (forms_of (forms_at text (drop (i + 1) items)))) e

  pub next_condition_fault : (found : List PlainLiteral) (fault : PddlFault) → condition_at part (form_at text item) ≡ Err fault → behind found (conditions_at part (forms_of (forms_at text (drop i items)))) ≡ Err fault
  next_condition_fault found fault e =
      ap (λ more. behind found (conditions_at part (forms_of (forms_at text more)))) (drop-next items i item within is)
      ∙ ap (λ r. behind found (and_then r (λ ls. and_then (conditions_at part (forms_of (forms_at text (drop (i + 1) items)))) (λ more. Ok (ls ++ more))))) e

-- the atom behind 'not' is at fault
pub negation_fault : (part : Part) (at : ℕ) (f : Form) (forms : List Form) (fault : PddlFault) → atom_at part f ≡ Err fault → negation_in part at (f ∷ forms) ≡ Err fault
negation_fault part at f [] fault e = ap (λ r. and_then r (λ l. Ok (negative_of l))) e
negation_fault part at f (g ∷ forms) fault e = ap (λ r. and_then {B = PlainLiteral} r (λ l. Err (Shape (place_of g)))) e

-- a second item behind 'not'
pub second_item : (part : Part) (text : List ℕ) (at : ℕ) (items : List Item) (first : Item) (rest : List Item) (second : Item) → items ≡ first ∷ rest → Some second ≡ slice_get rest 0 → (l : PlainLiteral) → atom_at part (form_at text first) ≡ Ok l
    → negation_in part at (forms_at text items) ≡ Err (Shape (place_of (form_at text second)))
second_item part text at items first [] second begins is l e = absurd cc
second_item part text at items first (other ∷ more) second begins is l e =
    let same : other ≡ second = cc in
    ap (λ xs. negation_in part at (forms_at text xs)) begins
    ∙ ap (λ r. and_then {B = PlainLiteral} r (λ l. Err (Shape (place_of (form_at text other))))) e
    ∙ ap (λ x. Err (Shape (place_of (form_at text x)))) same
