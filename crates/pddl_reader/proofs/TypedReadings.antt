-- A typed list, as it is read item by item.
use Rattle.std.proofs.Common.{◌≡◌, ℕ, ◌<◌, Bool, true, false, List, [], ◌∷◌, ◌++◌, length, codes, Ok, Err, inl, inr, refl, sym, ap, ◌∙◌, arith}
use Rattle.std.specs.Str.{bytes_eq}
use Rattle.pddl_reader.specs.Forms.{Word, Form, Leaf, group}
use Rattle.pddl_lexer.specs.declared.trees.Item.{Item}
use Rattle.pddl_reader.specs.Items.{forms_at, IsFaultOf}
use Rattle.pddl_reader.specs.Values.{PlainTypedName}
use Rattle.pddl_reader.specs.Classes.{is_element}
use Rattle.pddl_reader.specs.Typed.{typed_by}
use Rattle.pddl_reader.specs.Reading.{and_then, each_at, name_at, some_names, either_at, type_at, is_some_dash, typed_from}
use Rattle.pddl_reader.specs.Steps.{behind}
use Rattle.pddl_reader.specs.TypedSteps.{typed_rest, typed_behind, Refuses}
use Rattle.pddl_reader.specs.declared.faults.PddlFault.{PddlFault}
use Rattle.pddl_reader.specs.declared.faults.PddlFault.TheVariants.{Shape}
use Rattle.pddl_reader.specs.declared.kinds.Listed.{Listed}
use Rattle.pddl_reader.specs.declared.typed.TypedReading.{TypedReading}
use Rattle.pddl_reader.specs.declared.kinds.Listed.TheVariants.{Variables}
use Rattle.pddl_reader.proofs.ItemLemmas.{forms_in-of}
use Rattle.pddl_reader.proofs.ReadLemmas.{behind-append}

pub either_type : (listed : Listed) (at : ℕ) (forms : List Form) → listed ≡ Variables → type_at listed (group at forms) ≡ either_at at forms
either_type listed at forms is = ap (λ l. type_at l (group at forms)) is ∙ ap (either_at at) (forms_in-of forms)

-- what stands behind another head than 'either', behind 'either', and behind it where nothing or something does
pub other_head : (at : ℕ) (w : Word) (forms : List Form) → bytes_eq (codes "either") w.text ≡ false → either_at at (Leaf w ∷ forms) ≡ Err (Shape w.at)
other_head at w forms e = rw e refl

pub either_head : (at : ℕ) (w : Word) (forms : List Form) → bytes_eq (codes "either") w.text ≡ true → either_at at (Leaf w ∷ forms) ≡ some_names at forms
either_head at w forms e = rw e refl

pub no_names : (at : ℕ) (text : List ℕ) (items : List Item) → length items ≡ 0 → some_names at (forms_at text items) ≡ Err (Shape at)
no_names at text [] none = refl
no_names at text (item ∷ items) none = absurd (omega arith)

pub more_names : (at : ℕ) (text : List ℕ) (items : List Item) → 0 < length items → some_names at (forms_at text items) ≡ each_at name_at (forms_at text items)
more_names at text [] some = absurd (omega arith)
more_names at text (item ∷ items) some = refl

module _ (listed : Listed) (at : ℕ) where
  -- a type is read behind a dash, or is at fault
  pub type-step : (names : List PlainTypedName) (waiting types : List Word) (f : Form) (forms : List Form) → type_at listed f ≡ Ok types → behind names (typed_rest listed at waiting true (f ∷ forms)) ≡ behind (names ++ typed_by types waiting) (typed_from listed at [] forms)
  type-step names waiting types f forms e =
      ap (λ r. behind names (and_then r (λ types. behind (typed_by types waiting) (typed_from listed at [] forms)))) e
      ∙ behind-append names (typed_by types waiting) (typed_from listed at [] forms)

  pub type-stop : (names : List PlainTypedName) (waiting : List Word) (f : Form) (forms : List Form) (fault : PddlFault) → type_at listed f ≡ Err fault → behind names (typed_rest listed at waiting true (f ∷ forms)) ≡ Err fault
  type-stop names waiting f forms fault e = ap (λ r. behind names (and_then r (λ types. behind (typed_by types waiting) (typed_from listed at [] forms)))) e

  -- an element
  pub element-step : (waiting : List Word) (w : Word) (forms : List Form) → is_element listed w.text ≡ true → typed_from listed at waiting (Leaf w ∷ forms) ≡ typed_from listed at (waiting ++ w ∷ []) forms
  element-step waiting w [] e = rw e refl
  element-step waiting w (f ∷ forms) e = rw e refl

  -- a dash behind elements
  pub dash-step : (waiting : List Word) (w : Word) (forms : List Form) → is_element listed w.text ≡ false → is_some_dash waiting w.text ≡ true → typed_from listed at waiting (Leaf w ∷ forms) ≡ typed_rest listed at waiting true forms
  dash-step waiting w [] e d = rw e (rw d refl)
  dash-step waiting w (f ∷ forms) e d = rw e (rw d refl)

  -- a word of another kind
  pub word-stop : (waiting : List Word) (w : Word) (forms : List Form) → is_element listed w.text ≡ false → is_some_dash waiting w.text ≡ false → typed_from listed at waiting (Leaf w ∷ forms) ≡ Err (Shape w.at)
  word-stop waiting w [] e d = rw e (rw d refl)
  word-stop waiting w (f ∷ forms) e d = rw e (rw d refl)

pub some-dash : (waiting : List Word) (text : List ℕ) → 0 < length waiting → true ≡ bytes_eq (codes "-") text → is_some_dash waiting text ≡ true
some-dash [] text some e = absurd (omega arith)
some-dash (w ∷ waiting) text some e = sym e

module _ (listed : Listed) (at : ℕ) (names : List PlainTypedName) (waiting : List Word) (dash : Bool) (f : Form) (w : Word) (forms : List Form) (no_dash : dash ≡ false) (is : f ≡ Leaf w) where
  at_word : behind names (typed_rest listed at waiting dash (f ∷ forms)) ≡ behind names (typed_from listed at waiting (Leaf w ∷ forms))
  at_word = ap (λ d. behind names (typed_rest listed at waiting d (f ∷ forms))) no_dash ∙ ap (λ g. behind names (typed_from listed at waiting (g ∷ forms))) is

  pub element-taken : (after : List Word) → is_element listed w.text ≡ true → after ≡ waiting ++ w ∷ [] → behind names (typed_rest listed at waiting dash (f ∷ forms)) ≡ behind names (typed_rest listed at after dash forms)
  element-taken after e new =
      at_word ∙ ap (behind names) (element-step listed at waiting w forms e) ∙ ap (λ ws. behind names (typed_from listed at ws forms)) (sym new)
      ∙ ap (λ d. behind names (typed_rest listed at after d forms)) (sym no_dash)

  pub dash-taken : is_element listed w.text ≡ false → is_some_dash waiting w.text ≡ true → behind names (typed_rest listed at waiting dash (f ∷ forms)) ≡ behind names (typed_rest listed at waiting true forms)
  dash-taken e d = at_word ∙ ap (behind names) (dash-step listed at waiting w forms e d)

-- the fault, at the place and in front of these forms
pub refused_at : (listed : Listed) (r : TypedReading) (f : Form) (fault : PddlFault) → Refuses listed r f fault → (at : ℕ) (forms : List Form) → IsFaultOf (typed_behind listed r at (f ∷ forms)) fault
refused_at listed r f fault (inl memory) at forms = inl memory
refused_at listed r f fault (inr stops) at forms = inr (stops at forms)
