-- From a text to its tree, and from the forms of its list to the text.
use Rattle.std.proofs.Common.{◌≡◌, ℕ, true, false, List, Result, Ok, Err, IfErr, ◌⊎◌, inl, inr, sym, ap, ◌∙◌, subst}
use Rattle.std.specs.Prelude.{IfOk}
use Rattle.std.specs.Result.{IsErrAnd}
use Rattle.std.proofs.lemmas.Bool.{false≢true}
use Rattle.std.proofs.lemmas.Result.{err_from_is_err_and, IfErr-at_err}
use Rattle.pddl_lexer.specs.declared.faults.LexFault.{LexFault}
use Rattle.pddl_lexer.specs.declared.faults.LexFault.TheVariants.{OutOfMemory as LexMemory}
use Rattle.pddl_lexer.specs.declared.faults.TreeFault.{TreeFault}
use Rattle.pddl_lexer.specs.declared.faults.TreeFault.TheVariants.{OutOfMemory as TreeMemory}
use Rattle.pddl_lexer.specs.declared.trees.Item.{Item}
use Rattle.pddl_lexer.specs.declared.trees.TreeList.{TreeList}
use Rattle.pddl_reader.specs.declared.faults.PddlFault.{PddlFault}
use Rattle.pddl_reader.specs.declared.faults.PddlFault.TheVariants.{Lex, Tree, Shape, Unsupported, DoubledSection, OutOfMemory}
use Rattle.pddl_reader.specs.declared.kinds.Document.{Document}
use Rattle.pddl_reader.specs.Faults.{fault_of_lex, fault_of_tree, IsDocumentFault, IsTextFault}
use Rattle.pddl_reader.specs.Forms.{Form, group, form_of}
use Rattle.pddl_reader.specs.Items.{forms_at, IsFaultOf}
use Rattle.pddl_reader.specs.Reading.{Read}
use Rattle.pddl_reader.specs.Spelling.{IsFormOf}
use Rattle.pddl_reader.proofs.FormFaults.{is_of_form, IsOnForms}
use Rattle.pddl_reader.proofs.ItemLemmas.{form_of-list}

abbrev pub err_of : (A : Type 0) {E : Type 0} → E → Result A E
err_of A e = Err e

-- a text with tokens, or with a list, fails only for want of memory
pub lex_memory : {A T : Type 0} (r : Result T PddlFault) (e : LexFault) → IsErrAnd r (λ y. y ≡ fault_of_lex e) → (err_of A e ≡ Err LexMemory) ⊎ ⊥ → r ≡ Err OutOfMemory
lex_memory r e h (inl memory) =
    let p = err_from_is_err_and r h in
    let same : e ≡ LexMemory = cc in
    p.1 ∙ ap Err (p.2 ∙ ap fault_of_lex same)
lex_memory r e h (inr never) = absurd never

pub tree_memory : {A T : Type 0} (r : Result T PddlFault) (e : TreeFault) → IsErrAnd r (λ y. y ≡ fault_of_tree e) → (err_of A e ≡ Err TreeMemory) ⊎ (false ≡ true) → r ≡ Err OutOfMemory
tree_memory r e h (inl memory) =
    let p = err_from_is_err_and r h in
    let same : e ≡ TreeMemory = cc in
    p.1 ∙ ap Err (p.2 ∙ ap fault_of_tree same)
tree_memory r e h (inr never) = absurd (false≢true never)

pub passed_memory : {A T : Type 0} (r : Result T PddlFault) (e : PddlFault) → IsErrAnd r (λ y. y ≡ e) → (err_of A e ≡ Err OutOfMemory) ⊎ ⊥ → r ≡ Err OutOfMemory
passed_memory r e h (inl memory) =
    let p = err_from_is_err_and r h in
    let same : e ≡ OutOfMemory = cc in
    p.1 ∙ ap Err (p.2 ∙ same)
passed_memory r e h (inr never) = absurd never

pub if_read : {A E : Type 0} {P : Type 0} (x : A) (e : E) → (Ok x ≡ Err e) ⊎ P → P
if_read x e (inl never) = cc
if_read x e (inr h) = h

-- what is at fault in forms is at fault in the text
text_fault : (document : Document) (text : List ℕ) (form : Form) (fault : PddlFault) → IsFormOf text form → IsDocumentFault document form fault → is_of_form fault ≡ true → IsTextFault document text fault
text_fault document text form (Lex at) is h of_form = absurd (false≢true of_form)
text_fault document text form (Tree fault) is h of_form = absurd (false≢true of_form)
text_fault document text form (Shape at) is h of_form = (form, is, h)
text_fault document text form (Unsupported at feature) is h of_form = (form, is, h)
text_fault document text form (DoubledSection at) is h of_form = (form, is, h)
text_fault document text form OutOfMemory is h of_form = absurd (false≢true of_form)

pub passed_fault : {T : Type 0} (document : Document) (text : List ℕ) (r : Result T PddlFault) (e : PddlFault) → IsErrAnd r (λ y. y ≡ e) → (e ≡ OutOfMemory) ⊎ ((d : Document) → IsTextFault d text e)
    → (f : PddlFault) → r ≡ Err f → (f ≡ OutOfMemory) ⊎ IsTextFault document text f
passed_fault document text r e h (inl memory) = λ f is.
    let p = err_from_is_err_and r h in
    let same : f ≡ e = cc in
    inl (same ∙ memory)
passed_fault document text r e h (inr at_fault) = λ f is.
    let p = err_from_is_err_and r h in
    let same : e ≡ f = cc in
    inr (subst (IsTextFault document text) same (at_fault document))

-- the form of a tree whose items are lent
pub tree_form : (text : List ℕ) (l : TreeList) (items : List Item) → items ≡ l.items.items → form_of text l ≡ group l.at (forms_at text items)
tree_form text l items has = form_of-list text l ∙ ap (λ more. group l.at (forms_at text more)) (sym has)

-- what is read of forms, as what is answered
read_fault : {B : Type 0} (document : Document) (text : List ℕ) (form : Form) (read : Read B) (fault : PddlFault) → IsFormOf text form → IsOnForms read
    → (read ≡ Err fault → IsDocumentFault document form fault) → IsFaultOf read fault → (fault ≡ OutOfMemory) ⊎ IsTextFault document text fault
read_fault document text form read fault is on fails (inl memory) = inl memory
read_fault document text form read fault is on fails (inr e) = inr (text_fault document text form fault is (fails e) (subst IsOnForms e on))

pub answered_fault : {B T : Type 0} (document : Document) (text : List ℕ) (form : Form) (read : Read B) (r : Result T PddlFault) → IsFormOf text form → IsOnForms read
    → ((fault : PddlFault) → read ≡ Err fault → IsDocumentFault document form fault) → IfErr r (IsFaultOf read) → (f : PddlFault) → r ≡ Err f → (f ≡ OutOfMemory) ⊎ IsTextFault document text f
answered_fault document text form read r is on fails faults f e = read_fault document text form read f is on (fails f) (IfErr-at_err (IsFaultOf read) e faults)

pub answered : {T : Type 0} (read : Read T) (r : Result T PddlFault) (x : T) → IfOk r (λ y. read ≡ Ok y) → IfErr r (IsFaultOf read) → read ≡ Ok x → (r ≡ Ok x) ⊎ (r ≡ Err OutOfMemory)
answered read (Ok y) x reads faults e = inl cc
answered read (Err f) x reads (inl memory) e = inr (ap Err memory)
answered read (Err f) x reads (inr fails) e = inl cc
