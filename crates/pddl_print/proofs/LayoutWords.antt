-- The words of a text can be written and read again.
use Rattle.std.proofs.Common.{◌≡◌, ℕ, ◌+◌, ◌-◌, ◌<◌, Bool, true, false, cond, ◌||◌, List, [], ◌∷◌, ◌++◌, length, map, take, drop, refl, sym, ap, ◌∙◌, subst, arith, append_assoc, length-append}
use Rattle.std.specs.Prelude.{IsTrue, ◌==◌}
use Rattle.std.specs.Char.{to_ascii_lowercase}
use Rattle.std.specs.List.{AllByRecursion, flat_map}
use Rattle.std.specs.Str.{str_to_ascii_lowercase}
use Rattle.std.proofs.lemmas.Bool.{false≢true}
use Rattle.std.proofs.lemmas.Bool.Decides.{nat_tests}
use Rattle.std.proofs.lemmas.List.{length-map}
use Rattle.std.proofs.lemmas.Str.Ascii.{lowercase-lowercase}
use Rattle.pddl_lexer.specs.declared.token.Token.{Token}
use Rattle.pddl_lexer.specs.declared.token.TokenKind.TheVariants.{Open, Close, Word as WordKind}
use Rattle.pddl_lexer.specs.declared.trees.Item.{Item}
use Rattle.pddl_lexer.specs.declared.trees.TreeList.{TreeList}
use Rattle.pddl_lexer.specs.declared.trees.Item.TheOpen.{Item-F, TreeList-F}
use Rattle.pddl_lexer.specs.declared.trees.Item.TheFolds.{map-Item, fold-roll-Item, fold-roll-TreeList, ind-TreeList}
use Rattle.pddl_lexer.specs.Pieces.{Piece, Space, Comment, Bracket, Run, bytes_of, IsPiece, is_word_byte}
use Rattle.pddl_lexer.specs.Tokens.{tokens_from, kind_of}
use Rattle.pddl_lexer.specs.Trees.{Mark, Opened, Closed, Worded, mark_by_kind, mark_of, join, marks_of_item, marks_of_list, marks_in, marks_at}
use Rattle.pddl_reader.specs.Forms.{Form, group, forms_of, form_of_item, form_of_list, form_at, form_of}
use Rattle.pddl_reader.specs.Items.{forms_at}
use Rattle.pddl_reader.specs.Spelling.{IsFormOf}
use Rattle.pddl_reader.specs.Words.{AllWords, AllWordsOf}
use Rattle.pddl_print.specs.Layouts.{IsWritable}
use Rattle.pddl_print.proofs.LayoutItems.{word_between}

-- a word that is folded to lower case
lower_word_byte : (b : ℕ) → is_word_byte b ≡ true → is_word_byte (to_ascii_lowercase b) ≡ true
lower_word_byte b h = grind (arith, nat_tests)

lower_word : (bytes : List ℕ) → AllByRecursion (λ b. IsTrue (is_word_byte b)) bytes → AllByRecursion (λ b. IsTrue (is_word_byte b)) (str_to_ascii_lowercase bytes)
lower_word [] h = tt
lower_word (b ∷ bytes) h = (lower_word_byte b h.0, lower_word bytes h.1)

lower-lower : (bytes : List ℕ) → str_to_ascii_lowercase (str_to_ascii_lowercase bytes) ≡ str_to_ascii_lowercase bytes
lower-lower [] = refl
lower-lower (b ∷ bytes) = cc (lowercase-lowercase b, lower-lower bytes)

writable_word : (bytes : List ℕ) → 0 < length bytes → AllByRecursion (λ b. IsTrue (is_word_byte b)) bytes → IsWritable (str_to_ascii_lowercase bytes)
writable_word bytes some each = record { some = omega (arith, some, length-map bytes to_ascii_lowercase); bytes = lower_word bytes each; folded = lower-lower bytes }

-- each word among the marks can be written
abbrev AreWritable : List ℕ → List Mark → Type 0
AreWritable text [] = Unit {0}
AreWritable text (Opened at ∷ marks) = AreWritable text marks
AreWritable text (Closed ∷ marks) = AreWritable text marks
AreWritable text (Worded token ∷ marks) = IsWritable (str_to_ascii_lowercase (take (token.to - token.from) (drop token.from text))) × AreWritable text marks

both_writable : (text : List ℕ) (front back : List Mark) → AreWritable text (front ++ back) → AreWritable text front × AreWritable text back
both_writable text [] back h = (tt, h)
both_writable text (Opened at ∷ front) back h = both_writable text front back h
both_writable text (Closed ∷ front) back h = both_writable text front back h
both_writable text (Worded token ∷ front) back h = let both = both_writable text front back h.1 in ((h.0, both.0), both.1)

-- the words of pieces
run_writable : (text front bytes back : List ℕ) → front ++ (bytes ++ back) ≡ text → 0 < length bytes → AllByRecursion (λ b. IsTrue (is_word_byte b)) bytes
    → IsWritable (str_to_ascii_lowercase (take (length front + length bytes - length front) (drop (length front) text)))
run_writable text front bytes back whole some each =
    subst (λ s. IsWritable (str_to_ascii_lowercase s)) (sym (ap (λ s. take (length front + length bytes - length front) (drop (length front) s)) (sym whole) ∙ word_between front bytes back)) (writable_word bytes some each)

bracket_writable : (text : List ℕ) (opens closes : Bool) (t : Token) (marks : List Mark) → (opens || closes) ≡ true → AreWritable text marks → AreWritable text (mark_by_kind (cond opens Open (cond closes Close WordKind)) t ∷ marks)
bracket_writable text true closes t marks is h = h
bracket_writable text false true t marks is h = h
bracket_writable text false false t marks is h = absurd (false≢true is)

pieces_writable : (text front : List ℕ) (pieces : List Piece) (at : ℕ) → at ≡ length front → front ++ flat_map bytes_of pieces ≡ text → AllByRecursion IsPiece pieces → AreWritable text (map mark_of (tokens_from at pieces))
pieces_writable text front [] at here whole each = tt
pieces_writable text front (Space b ∷ rest) at here whole each =
    pieces_writable text (front ++ b ∷ []) rest (at + 1) (omega (arith, here, length-append front (b ∷ []))) (append_assoc front (b ∷ []) (flat_map bytes_of rest) ∙ whole) each.1
pieces_writable text front (Comment bytes ∷ rest) at here whole each =
    pieces_writable text (front ++ 59 ∷ bytes) rest (at + 1 + length bytes) (omega (arith, here, length-append front (59 ∷ bytes))) (append_assoc front (59 ∷ bytes) (flat_map bytes_of rest) ∙ whole) each.1
pieces_writable text front (Bracket b ∷ rest) at here whole each =
    bracket_writable text (b == 40) (b == 41) (record { kind = kind_of b; from = at; to = at + 1 }) _ each.0
    (pieces_writable text (front ++ b ∷ []) rest (at + 1) (omega (arith, here, length-append front (b ∷ []))) (append_assoc front (b ∷ []) (flat_map bytes_of rest) ∙ whole) each.1)
pieces_writable text front (Run bytes ∷ rest) at here whole each = (
  subst (λ n. IsWritable (str_to_ascii_lowercase (take (n + length bytes - n) (drop n text)))) (sym here) (run_writable text front bytes (flat_map bytes_of rest) whole each.0.0 each.0.1),
  pieces_writable text (front ++ bytes) rest (at + length bytes) (omega (arith, here, length-append front bytes)) (append_assoc front bytes (flat_map bytes_of rest) ∙ whole) each.1,
)

-- the words of a tree
abbrev IsItemWritten : List ℕ → Item → Type 0
IsItemWritten text i = AreWritable text (marks_at i) → AllWords IsWritable (form_at text i)

abbrev IsListWritten : List ℕ → TreeList → Type 0
IsListWritten text l = AreWritable text (marks_in l) → AllWords IsWritable (form_of text l)

written_items : (text : List ℕ) (items : List ((i : Item) × IsItemWritten text i)) → AreWritable text (join (map marks_at (map (λ e. e.0) items))) → AllWordsOf IsWritable (forms_of (forms_at text (map (λ e. e.0) items)))
written_items text [] h = tt
written_items text (e ∷ items) h =
    let both = both_writable text (marks_at e.0) (join (map marks_at (map (λ e. e.0) items))) h in
    (e.1 both.0, written_items text items both.1)

-- one layer
abbrev IsItemLayer : List ℕ → Item-F Item TreeList → Type 0
IsItemLayer text i =
    AreWritable text (marks_of_item (map-Item Item TreeList (List Mark) (List Mark) marks_at marks_in i)) → AllWords IsWritable (form_of_item text (map-Item Item TreeList Form Form (form_at text) (form_of text) i))

abbrev IsListLayer : List ℕ → TreeList-F Item TreeList → Type 0
IsListLayer text l = AreWritable text (Opened l.at ∷ (join (map marks_at l.items.items) ++ Closed ∷ [])) → AllWords IsWritable (group l.at (forms_at text l.items.items))

item_layer : (text : List ℕ) (y : Item-F ((i : Item) × IsItemWritten text i) ((l : TreeList) × IsListWritten text l)) → IsItemLayer text (map-Item ((i : Item) × IsItemWritten text i) ((l : TreeList) × IsListWritten text l) Item TreeList (λ e. e.0) (λ e. e.0) y)
item_layer text (Item-F.Word t) = λ h. h.0
item_layer text (Item-F.List e) = e.1

list_layer : (text : List ℕ) (at : ℕ) (items : List ((i : Item) × IsItemWritten text i))
    → AreWritable text (Opened at ∷ (join (map marks_at (map (λ e. e.0) items)) ++ Closed ∷ [])) → AllWords IsWritable (group at (forms_at text (map (λ e. e.0) items)))
list_layer text at items h = written_items text items (both_writable text (join (map marks_at (map (λ e. e.0) items))) (Closed ∷ []) h).0

written_as : (text : List ℕ) (marks others : List Mark) (f g : Form) → marks ≡ others → f ≡ g → (AreWritable text others → AllWords IsWritable g) → AreWritable text marks → AllWords IsWritable f
written_as text marks others f g same_marks same_form step h = subst (AllWords IsWritable) (sym same_form) (step (subst (AreWritable text) same_marks h))

written_tree : (text : List ℕ) (l : TreeList) → IsListWritten text l
written_tree text = ind-TreeList (IsItemWritten text) (IsListWritten text)
    (λ x y is.
    written_as text _ _ _ _ (fold-roll-Item (List Mark) (List Mark) marks_of_item marks_of_list x) (fold-roll-Item Form Form (form_of_item text) form_of_list x)
    (subst (IsItemLayer text) is (item_layer text y)))
    (λ x y is.
    written_as text _ _ _ _ (fold-roll-TreeList (List Mark) (List Mark) marks_of_item marks_of_list x) (fold-roll-TreeList Form Form (form_of_item text) form_of_list x)
    (subst (IsListLayer text) is (list_layer text y.at y.items.items)))

-- the words of a text can be written and read again
pub words_of_text : (text : List ℕ) (f : Form) → IsFormOf text f → AllWords IsWritable f
words_of_text text f h =
    let pieces = h.are_tokens.pieces in
    let marks = pieces_writable text [] pieces 0 refl h.are_tokens.cut.covers h.are_tokens.cut.each in
    subst (AllWords IsWritable) (sym h.form) (written_tree text h.tree (subst (AreWritable text) (ap (map mark_of) h.are_tokens.give ∙ sym h.is_tree) marks))
