-- The words of a text's tokens are parts of the text.
use Rattle.std.proofs.Common.{◌≡◌, ℕ, ◌+◌, ◌-◌, ◌<◌, Bool, true, false, cond, ◌||◌, List, [], ◌∷◌, ◌++◌, length, map, take, drop, refl, sym, ap, ◌∙◌, subst, arith, append_assoc, length-append}
use Rattle.std.specs.Prelude.{IsTrue, ◌==◌, All}
use Rattle.std.specs.List.{AllByRecursion, flat_map}
use Rattle.std.proofs.Math.Seq.{take-append_seam, drop-append_seam}
use Rattle.std.proofs.lemmas.Bool.{false≢true}
use Rattle.std.proofs.lemmas.Bool.Decides.{nat_tests}
use Rattle.std.proofs.lemmas.List.Elements.{All-nil, All-cons}
use Rattle.pddl_lexer.specs.declared.token.Token.{Token}
use Rattle.pddl_lexer.specs.declared.token.TokenKind.TheVariants.{Open, Close, Word}
use Rattle.pddl_lexer.specs.declared.trees.TreeList.{TreeList}
use Rattle.pddl_lexer.specs.Pieces.{Piece, Space, Comment, Bracket, Run, bytes_of, IsPiece, is_word_byte}
use Rattle.pddl_lexer.specs.Tokens.{AreTokens, tokens_from, kind_of}
use Rattle.pddl_lexer.specs.Trees.{Mark, mark_by_kind, mark_of, IsTreeOf}
use Rattle.pddl_reader.specs.Items.{IsTokenOver, AreMarksOver, AreItemsOver}
use Rattle.pddl_reader.proofs.ItemLemmas.{over_inside}

word_byte_below : (b : ℕ) → is_word_byte b ≡ true → b < 128
word_byte_below b h = grind (arith, nat_tests)

word_bytes_below : (bytes : List ℕ) → AllByRecursion (λ b. IsTrue (is_word_byte b)) bytes → All (λ b. b < 128) bytes
word_bytes_below [] h = All-nil (λ b. b < 128)
word_bytes_below (b ∷ bytes) h = All-cons (λ b. b < 128) b bytes (word_byte_below b h.0) (word_bytes_below bytes h.1)

-- a run between what comes before and behind it
part_of : (front bytes back : List ℕ) → take (length front + length bytes - length front) (drop (length front) (front ++ (bytes ++ back))) ≡ bytes
part_of front bytes back =
    let len : length front + length bytes - length front ≡ length bytes = omega arith in
    ap (λ n. take n (drop (length front) (front ++ (bytes ++ back)))) len ∙ ap (take (length bytes)) (drop-append_seam front (bytes ++ back)) ∙ take-append_seam bytes back

run_over : (text front bytes back : List ℕ) → front ++ (bytes ++ back) ≡ text → 0 < length bytes → AllByRecursion (λ b. IsTrue (is_word_byte b)) bytes
    → IsTokenOver text (record { kind = Word; from = length front; to = length front + length bytes })
run_over text front bytes back whole some each = record {
  some = omega (arith, some);
  within = omega (arith, length-append front (bytes ++ back), length-append bytes back, ap length whole);
  ascii = subst (All (λ b. b < 128)) (sym (ap (λ s. take (length front + length bytes - length front) (drop (length front) s)) (sym whole) ∙ part_of front bytes back)) (word_bytes_below bytes each);
}

-- a bracket is no word
bracket_over : (text : List ℕ) (opens closes : Bool) (t : Token) (marks : List Mark) → (opens || closes) ≡ true → AreMarksOver text marks → AreMarksOver text (mark_by_kind (cond opens Open (cond closes Close Word)) t ∷ marks)
bracket_over text true closes t marks is h = h
bracket_over text false true t marks is h = h
bracket_over text false false t marks is h = absurd (false≢true is)

pieces_over : (text front : List ℕ) (pieces : List Piece) (at : ℕ) → at ≡ length front → front ++ flat_map bytes_of pieces ≡ text → AllByRecursion IsPiece pieces → AreMarksOver text (map mark_of (tokens_from at pieces))
pieces_over text front [] at here whole each = tt
pieces_over text front (Space b ∷ rest) at here whole each =
    pieces_over text (front ++ b ∷ []) rest (at + 1) (omega (arith, here, length-append front (b ∷ []))) (append_assoc front (b ∷ []) (flat_map bytes_of rest) ∙ whole) each.1
pieces_over text front (Comment bytes ∷ rest) at here whole each =
    pieces_over text (front ++ 59 ∷ bytes) rest (at + 1 + length bytes) (omega (arith, here, length-append front (59 ∷ bytes))) (append_assoc front (59 ∷ bytes) (flat_map bytes_of rest) ∙ whole) each.1
pieces_over text front (Bracket b ∷ rest) at here whole each =
    bracket_over text (b == 40) (b == 41) (record { kind = kind_of b; from = at; to = at + 1 }) _ each.0
    (pieces_over text (front ++ b ∷ []) rest (at + 1) (omega (arith, here, length-append front (b ∷ []))) (append_assoc front (b ∷ []) (flat_map bytes_of rest) ∙ whole) each.1)
pieces_over text front (Run bytes ∷ rest) at here whole each = (
  subst (λ n. IsTokenOver text (record { kind = Word; from = n; to = n + length bytes })) (sym here) (run_over text front bytes (flat_map bytes_of rest) whole each.0.0 each.0.1),
  pieces_over text (front ++ bytes) rest (at + length bytes) (omega (arith, here, length-append front bytes)) (append_assoc front bytes (flat_map bytes_of rest) ∙ whole) each.1,
)

pub tree_over : (text : List ℕ) (tokens : List Token) (l : TreeList) → AreTokens text tokens → IsTreeOf tokens l → AreItemsOver text l.items.items
tree_over text tokens l are is =
    let over = pieces_over text [] are.pieces 0 refl are.cut.covers are.cut.each in
    over_inside text l (subst (AreMarksOver text) (ap (map mark_of) are.give ∙ sym is) over)
