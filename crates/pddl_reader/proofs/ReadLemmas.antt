-- Reading one form behind the other.
use Rattle.std.proofs.Common.{◌≡◌, ℕ, ◌+◌, ◌<◌, List, [], ◌∷◌, ◌++◌, length, get_or, drop, Result, Ok, Err, IfErr, inl, inr, refl, sym, ap, ◌∙◌, subst, append_assoc}
use Rattle.std.specs.Result.{IsErrAnd}
use Rattle.std.proofs.lemmas.List.{drop_more}
use Rattle.pddl_lexer.specs.declared.trees.Item.{Item}
use Rattle.pddl_reader.specs.Forms.{Form, form_at}
use Rattle.pddl_reader.specs.Items.{IsItemOver, AreItemsOver, forms_at, IsFaultOf}
use Rattle.pddl_reader.specs.Steps.{behind}
use Rattle.pddl_reader.specs.Reading.{Read, and_then, each_at}
use Rattle.pddl_reader.specs.declared.faults.PddlFault.{PddlFault}
use Rattle.pddl_reader.proofs.ItemLemmas.{over_first}

pub behind-nothing : {A : Type 0} (read : Read (List A)) → behind [] read ≡ read
behind-nothing (Ok xs) = refl
behind-nothing (Err fault) = refl

pub behind-push : {A : Type 0} (xs : List A) (x : A) (read : Read (List A)) → behind xs (and_then read (λ more. Ok (x ∷ more))) ≡ behind (xs ++ x ∷ []) read
behind-push xs x (Ok more) = ap Ok (sym (append_assoc xs (x ∷ []) more))
behind-push xs x (Err fault) = refl

pub behind-append : {A : Type 0} (xs ys : List A) (read : Read (List A)) → behind xs (behind ys read) ≡ behind (xs ++ ys) read
behind-append xs ys (Ok more) = ap Ok (sym (append_assoc xs ys more))
behind-append xs ys (Err fault) = refl

pub behind-fault : {A : Type 0} (xs : List A) (read : Read (List A)) (fault : PddlFault) → behind xs read ≡ Err fault → read ≡ Err fault
behind-fault xs (Ok more) fault e = absurd cc
behind-fault xs (Err other) fault e = e

-- the next form is read, or is at fault
pub each-step : {A : Type 0} (read : Form → Read A) (xs : List A) (f : Form) (forms : List Form) (x : A) → read f ≡ Ok x → behind xs (each_at read (f ∷ forms)) ≡ behind (xs ++ x ∷ []) (each_at read forms)
each-step read xs f forms x e = ap (λ r. behind xs (and_then r (λ y. and_then (each_at read forms) (λ ys. Ok (y ∷ ys))))) e ∙ behind-push xs x (each_at read forms)

pub each-stop : {A : Type 0} (read : Form → Read A) (xs : List A) (f : Form) (forms : List Form) (fault : PddlFault) → read f ≡ Err fault → behind xs (each_at read (f ∷ forms)) ≡ Err fault
each-stop read xs f forms fault e = ap (λ r. behind xs (and_then r (λ y. and_then (each_at read forms) (λ ys. Ok (y ∷ ys))))) e

-- a fault that is passed on by '?', from a step whose fault is that of the whole
pub fault_passes : {A B T : Type 0} (inner : Read A) (outer : Read B) (r : Result T PddlFault) (fault : PddlFault) → IsErrAnd r (λ y. y ≡ fault) → IsFaultOf inner fault → (inner ≡ Err fault → outer ≡ Err fault) → IfErr r (IsFaultOf outer)
fault_passes inner outer (Ok x) fault e h to = tt
fault_passes inner outer (Err y) fault e (inl memory) to = inl (e ∙ memory)
fault_passes inner outer (Err y) fault e (inr read) to = inr (to read ∙ ap Err (sym e))

-- the next of some items, which are read from the place on
pub drop-next : {A : Type 0} (xs : List A) (i : ℕ) (x : A) → i < length xs → x ≡ get_or xs i x → drop i xs ≡ x ∷ drop (i + 1) xs
drop-next xs i x within is = drop_more xs i x within ∙ ap (λ y. y ∷ drop (i + 1) xs) (sym is)

module _ (text : List ℕ) (items : List Item) (i : ℕ) (item : Item) (within : i < length items) (is : item ≡ get_or items i item) where
  pub next_over : AreItemsOver text (drop i items) → IsItemOver text item × AreItemsOver text (drop (i + 1) items)
  next_over h = over_first text item (drop (i + 1) items) (subst (AreItemsOver text) (drop-next items i item within is) h)

  pub next_read : {A : Type 0} (read : Form → Read A) (xs : List A) (x : A) → read (form_at text item) ≡ Ok x → behind xs (each_at read (forms_at text (drop i items))) ≡ behind (xs ++ x ∷ []) (each_at read (forms_at text (drop (i + 1) items)))
  next_read read xs x e =
      ap (λ more. behind xs (each_at read (forms_at text more))) (drop-next items i item within is)
      ∙ each-step read xs (form_at text item) (forms_at text (drop (i + 1) items)) x e

  pub next_fault : {A : Type 0} (read : Form → Read A) (xs : List A) (fault : PddlFault) → read (form_at text item) ≡ Err fault → behind xs (each_at read (forms_at text (drop i items))) ≡ Err fault
  next_fault read xs fault e =
      ap (λ more. behind xs (each_at read (forms_at text more))) (drop-next items i item within is)
      ∙ each-stop read xs (form_at text item) (forms_at text (drop (i + 1) items)) fault e
