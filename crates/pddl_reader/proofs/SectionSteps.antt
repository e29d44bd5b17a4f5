-- The contents of sections, one item behind the other.
use Rattle.std.proofs.Common.{◌≡◌, ℕ, true, cond, List, [], ◌∷◌, Ok, Err, ap, ◌∙◌}
use Rattle.pddl_lexer.specs.declared.trees.Item.{Item}
use Rattle.pddl_reader.specs.Classes.{is_one_of, accepted, is_keyword}
use Rattle.pddl_reader.specs.Forms.{Word, Form, Leaf, form_at}
use Rattle.pddl_reader.specs.Items.{forms_at}
use Rattle.pddl_reader.specs.Reading.{requirement_at, one_form}
use Rattle.pddl_reader.specs.declared.faults.PddlFault.TheVariants.{Shape, Unsupported}
use Rattle.pddl_reader.specs.declared.faults.Feature.TheVariants.{Requirement}

pub accepted_word : (f : Form) (w : Word) → f ≡ Leaf w → is_one_of accepted w.text ≡ true → requirement_at f ≡ Ok w
accepted_word f w is h =
    ap requirement_at is ∙ ap (λ b. cond b (Ok w) (cond (is_keyword w.text) (Err (Unsupported w.at Requirement)) (Err (Shape w.at)))) h

pub one_form_read : (at : ℕ) (text : List ℕ) (items rest : List Item) (item : Item) → forms_at text items ≡ form_at text item ∷ forms_at text rest → rest ≡ [] → one_form at (forms_at text items) ≡ Ok (form_at text item)
one_form_read at text items rest item whole none = ap (one_form at) (whole ∙ ap (λ more. form_at text item ∷ forms_at text more) none)
