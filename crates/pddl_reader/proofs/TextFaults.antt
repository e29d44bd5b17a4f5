-- What is at fault in a text is what is answered, unless memory is wanting.
use Rattle.std.proofs.Common.{◌≡◌, ◌≢◌, ℕ, false, true, List, Result, Ok, Err, IfErr, ◌⊎◌, inl, inr, refl, sym, ap, ◌∙◌, subst}
use Rattle.std.specs.Prelude.{IfOk}
use Rattle.std.specs.Result.{IsErrAnd}
use Rattle.std.proofs.lemmas.Result.{err_from_is_err_and}
use Rattle.pddl_lexer.specs.declared.token.Token.{Token}
use Rattle.pddl_lexer.specs.declared.faults.LexFault.{LexFault}
use Rattle.pddl_lexer.specs.declared.faults.LexFault.TheVariants.{BadByte, OutOfMemory as LexMemory}
use Rattle.pddl_lexer.specs.declared.faults.TreeFault.{TreeFault}
use Rattle.pddl_lexer.specs.declared.faults.TreeFault.TheVariants.{Nothing, TooDeep, Unopened, Trailing, Unclosed, OutOfMemory as TreeMemory}
use Rattle.pddl_lexer.specs.declared.trees.TreeList.{TreeList}
use Rattle.pddl_lexer.specs.Brackets.{IsFaultOf as IsBracketFault, IsOneList}
use Rattle.pddl_lexer.specs.Tokens.{AreTokens, IsFirstBad}
use Rattle.pddl_lexer.specs.Trees.{IsTreeOf}
use Rattle.pddl_reader.specs.declared.faults.PddlFault.{PddlFault}
use Rattle.pddl_reader.specs.declared.faults.PddlFault.TheVariants.{Lex, Tree, Shape, Unsupported, DoubledSection, OutOfMemory}
use Rattle.pddl_reader.specs.declared.kinds.Document.{Document}
use Rattle.pddl_reader.specs.Faults.{fault_of_lex, fault_of_tree, IsDocumentFault, IsFormFault, IsTextFault}
use Rattle.pddl_reader.specs.Forms.{form_of}
use Rattle.pddl_reader.specs.Items.{IsFaultOf}
use Rattle.pddl_reader.specs.Reading.{Read}
use Rattle.pddl_reader.proofs.OneForm.{same_form}
use Rattle.pddl_reader.proofs.TextLemmas.{err_of, lex_memory, tree_memory}

-- the fault is answered, or want of memory, or it is left to the forms
abbrev pub IsAnswered : {T : Type 0} → Result T PddlFault → Type 0 → PddlFault → Type 0
IsAnswered r Left f = (r ≡ Err f) ⊎ (r ≡ Err OutOfMemory) ⊎ Left

passed : {T : Type 0} (r : Result T PddlFault) (f g : PddlFault) → IsErrAnd r (λ y. y ≡ f) → f ≡ g → r ≡ Err g
passed r f g h e = let p = err_from_is_err_and r h in p.1 ∙ ap Err (p.2 ∙ e)

lex_answered : {A T : Type 0} (Left : Type 0) (r : Result T PddlFault) (e : LexFault) (at : ℕ) → IsErrAnd r (λ y. y ≡ fault_of_lex e)
    → (err_of A e ≡ Err LexMemory) ⊎ (err_of A e ≡ Err (BadByte at)) → IsAnswered r Left (Lex at)
lex_answered Left r e at h (inl memory) = let same : e ≡ LexMemory = cc in inr (inl (passed r (fault_of_lex e) OutOfMemory h (ap fault_of_lex same)))
lex_answered Left r e at h (inr bad) = let same : e ≡ BadByte at = cc in inl (passed r (fault_of_lex e) (Lex at) h (ap fault_of_lex same))

-- a text without tokens
pub lex_faults : {A T : Type 0} (document : Document) (text : List ℕ) (Left : Type 0) (r : Result T PddlFault) (e : LexFault) → IsErrAnd r (λ y. y ≡ fault_of_lex e)
    → ((tokens : List Token) → AreTokens text tokens → (err_of A e ≡ Err LexMemory) ⊎ ⊥)
    → ((at : ℕ) → IsFirstBad text at → (err_of A e ≡ Err LexMemory) ⊎ (err_of A e ≡ Err (BadByte at)))
    → (f : PddlFault) → IsTextFault document text f → IsAnswered r Left f
lex_faults document text Left r e h only bad (Lex at) is = lex_answered Left r e at h (bad at is)
lex_faults document text Left r e h only bad (Tree fault) (some, tokens, are, of) = inr (inl (lex_memory r e h (only tokens are)))
lex_faults document text Left r e h only bad (Shape at) (form, is, of) = inr (inl (lex_memory r e h (only is.tokens is.are_tokens)))
lex_faults document text Left r e h only bad (Unsupported at feature) (form, is, of) = inr (inl (lex_memory r e h (only is.tokens is.are_tokens)))
lex_faults document text Left r e h only bad (DoubledSection at) (form, is, of) = inr (inl (lex_memory r e h (only is.tokens is.are_tokens)))
lex_faults document text Left r e h only bad OutOfMemory is = absurd is

of_brackets : (fault : TreeFault) → fault ≢ TreeMemory → fault_of_tree fault ≡ Tree fault
of_brackets Nothing some = refl
of_brackets (TooDeep at) some = refl
of_brackets (Unopened at) some = refl
of_brackets (Trailing at) some = refl
of_brackets (Unclosed at) some = refl
of_brackets TreeMemory some = absurd (some refl)

tree_answered : {A T : Type 0} (Left : Type 0) (r : Result T PddlFault) (e fault : TreeFault) → IsErrAnd r (λ y. y ≡ fault_of_tree e)
    → fault ≢ TreeMemory → (err_of A e ≡ Err TreeMemory) ⊎ (err_of A e ≡ Err fault) → IsAnswered r Left (Tree fault)
tree_answered Left r e fault h some (inl memory) = let same : e ≡ TreeMemory = cc in inr (inl (passed r (fault_of_tree e) OutOfMemory h (ap fault_of_tree same)))
tree_answered Left r e fault h some (inr bad) =
    let same : e ≡ fault = cc in
    inl (passed r (fault_of_tree e) (Tree fault) h (ap fault_of_tree same ∙ of_brackets fault some))

-- tokens that are not one list, where the text has no other tokens
pub tree_faults : {A T : Type 0} (document : Document) (text : List ℕ) (Left : Type 0) (r : Result T PddlFault) (found : List Token) (e : TreeFault)
    → IsErrAnd r (λ y. y ≡ fault_of_tree e)
    → ((at : ℕ) → IsFirstBad text at → ⊥) → ((tokens : List Token) → AreTokens text tokens → found ≡ tokens)
    → (IsOneList found → (err_of A e ≡ Err TreeMemory) ⊎ (false ≡ true))
    → ((fault : TreeFault) → IsBracketFault found fault → (err_of A e ≡ Err TreeMemory) ⊎ (err_of A e ≡ Err fault))
    → (f : PddlFault) → IsTextFault document text f → IsAnswered r Left f
tree_faults document text Left r found e h none only one first (Lex at) is = absurd (none at is)
tree_faults document text Left r found e h none only one first (Tree fault) (some, tokens, are, of) =
    tree_answered Left r e fault h some (first fault (subst (λ ts. IsBracketFault ts fault) (sym (only tokens are)) of))
tree_faults document text Left r found e h none only one first (Shape at) (form, is, of) =
    inr (inl (tree_memory r e h (one (subst IsOneList (sym (only is.tokens is.are_tokens)) is.one_list))))
tree_faults document text Left r found e h none only one first (Unsupported at feature) (form, is, of) =
    inr (inl (tree_memory r e h (one (subst IsOneList (sym (only is.tokens is.are_tokens)) is.one_list))))
tree_faults document text Left r found e h none only one first (DoubledSection at) (form, is, of) =
    inr (inl (tree_memory r e h (one (subst IsOneList (sym (only is.tokens is.are_tokens)) is.one_list))))
tree_faults document text Left r found e h none only one first OutOfMemory is = absurd is

-- what is at fault in the text's form is at fault in the form of its tree
in_tree : (document : Document) (text : List ℕ) (found : List Token) (tree : TreeList) (f : PddlFault) → IsTreeOf found tree
    → ((tokens : List Token) → AreTokens text tokens → found ≡ tokens) → IsFormFault document text f → IsDocumentFault document (form_of text tree) f
in_tree document text found tree f has only (form, is, of) =
    let also = subst (λ tokens. IsTreeOf tokens tree) (only is.tokens is.are_tokens) has in
    subst (λ g. IsDocumentFault document g f) (is.form ∙ same_form text is.tokens is.tree tree is.is_tree also) of

-- a text with its tree
pub form_faults : (document : Document) (text : List ℕ) (found : List Token) (tree : TreeList) → IsTreeOf found tree
    → ((at : ℕ) → IsFirstBad text at → ⊥) → ((tokens : List Token) → AreTokens text tokens → found ≡ tokens)
    → ((fault : TreeFault) → IsBracketFault found fault → ⊥)
    → (f : PddlFault) → IsTextFault document text f → IsDocumentFault document (form_of text tree) f
form_faults document text found tree has none only whole (Lex at) is = absurd (none at is)
form_faults document text found tree has none only whole (Tree fault) (some, tokens, are, of) =
    absurd (whole fault (subst (λ ts. IsBracketFault ts fault) (sym (only tokens are)) of))
form_faults document text found tree has none only whole (Shape at) is = in_tree document text found tree (Shape at) has only is
form_faults document text found tree has none only whole (Unsupported at feature) is = in_tree document text found tree (Unsupported at feature) has only is
form_faults document text found tree has none only whole (DoubledSection at) is = in_tree document text found tree (DoubledSection at) has only is
form_faults document text found tree has none only whole OutOfMemory is = absurd is

-- a value that is read is no fault
pub no_fault : {A E : Type 0} (x : A) (e g : E) → (Ok x ≡ Err e) ⊎ (Ok x ≡ Err g) → ⊥
no_fault x e g (inl never) = absurd (cc)
no_fault x e g (inr never) = absurd (cc)

-- a fault of the reading of the tree is passed on
pub passed_exactly : {A T : Type 0} (r : Result T PddlFault) (e f : PddlFault) → IsErrAnd r (λ y. y ≡ e)
    → (err_of A e ≡ Err f) ⊎ (err_of A e ≡ Err OutOfMemory) ⊎ ⊥ → (r ≡ Err f) ⊎ (r ≡ Err OutOfMemory)
passed_exactly r e f h (inl is) = let same : e ≡ f = cc in inl (passed r e f h same)
passed_exactly r e f h (inr (inl memory)) = let same : e ≡ OutOfMemory = cc in inr (passed r e OutOfMemory h same)
passed_exactly r e f h (inr (inr never)) = absurd never

pub if_left : {A E : Type 0} {P : Type 0} (x : A) (e g : E) → (Ok x ≡ Err e) ⊎ (Ok x ≡ Err g) ⊎ P → P
if_left x e g (inl never) = absurd (cc)
if_left x e g (inr (inl never)) = absurd (cc)
if_left x e g (inr (inr h)) = h

pub answered_exactly : {T : Type 0} (read : Read T) (r : Result T PddlFault) (f : PddlFault) → IfOk r (λ y. read ≡ Ok y) → IfErr r (IsFaultOf read) → read ≡ Err f
    → (r ≡ Err f) ⊎ (r ≡ Err OutOfMemory)
answered_exactly read (Ok y) f reads faults e = absurd (cc)
answered_exactly read (Err g) f reads (inl memory) e = inr (ap Err memory)
answered_exactly read (Err g) f reads (inr fails) e = inl cc
