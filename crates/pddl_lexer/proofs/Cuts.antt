-- Cuts of a text, piece by piece.
use Rattle.std.proofs.Common.{◌≡◌, ℕ, ◌<◌, true, false, cond, List, [], ◌∷◌, ◌++◌, length, refl, sym, ap, ◌∙◌, subst, arith}
use Rattle.std.specs.Prelude.{IsTrue, ◌==◌}
use Rattle.std.specs.List.{AllByRecursion, flat_map}
use Rattle.std.proofs.lemmas.Bool.{false≢true}
use Rattle.std.proofs.lemmas.Bool.Decides.{nat_tests}
use Rattle.pddl_lexer.specs.Pieces.{Piece, Space, Comment, Bracket, Run, bytes_of, IsPiece, MayFollow, FollowEachOther, IsCut, is_space, is_bracket, is_word_byte}

-- the first byte, if there is one
abbrev pub StartsBy : (ℕ → Type 0) → List ℕ → Type 0
StartsBy P [] = Unit {0}
StartsBy P (b ∷ bytes) = P b

-- two fronts of one list that end where their bytes end are the same
module _ (In Out : ℕ → Type 0) (apart : (b : ℕ) → In b → Out b → ⊥) where
  one_front : (xs rest ys more : List ℕ) → AllByRecursion In xs → AllByRecursion In ys → StartsBy Out rest → StartsBy Out more
      → xs ++ rest ≡ ys ++ more → (xs ≡ ys) × (rest ≡ more)
  one_front [] rest [] more all_xs all_ys end_xs end_ys e = (refl, e)
  one_front [] rest (y ∷ ys) more all_xs all_ys end_xs end_ys e = absurd (apart y all_ys.0 (subst (StartsBy Out) e end_xs))
  one_front (x ∷ xs) rest [] more all_xs all_ys end_xs end_ys e = absurd (apart x all_xs.0 (subst (StartsBy Out) (sym e) end_ys))
  one_front (x ∷ xs) rest (y ∷ ys) more all_xs all_ys end_xs end_ys e =
      let both : (x ≡ y) × (xs ++ rest ≡ ys ++ more) = (cc, cc) in
      let tails = one_front xs rest ys more all_xs.1 all_ys.1 end_xs end_ys both.1 in
      (cc, tails.1)

-- a byte that ends a comment, or a run
abbrev pub EndsLine : ℕ → Type 0
EndsLine b = b ≡ 10

abbrev pub EndsRun : ℕ → Type 0
EndsRun b = is_word_byte b ≡ false

-- a comment or a run goes on as long as it can
abbrev pub IsLongest : Piece → List ℕ → Type 0
IsLongest (Space b) rest = Unit {0}
IsLongest (Comment bytes) rest = StartsBy EndsLine rest
IsLongest (Bracket b) rest = Unit {0}
IsLongest (Run bytes) rest = StartsBy EndsRun rest

-- the text begins with the piece, and the rest follows
pub record Begins (text : List ℕ) (piece : Piece) (rest : List ℕ) : Type 0 where
  pub whole : bytes_of piece ++ rest ≡ text
  pub is_piece : IsPiece piece
  pub longest : IsLongest piece rest

-- a number for each kind of piece, and for the byte that begins one
abbrev kind_of : Piece → ℕ
kind_of (Space b) = 0
kind_of (Comment bytes) = 1
kind_of (Bracket b) = 2
kind_of (Run bytes) = 3

abbrev kind_at : ℕ → ℕ
kind_at b = cond (is_space b) 0 (cond (b == 59) 1 (cond (is_bracket b) 2 3))

bracket_kind : (b : ℕ) → is_bracket b ≡ true → kind_at b ≡ 2
bracket_kind b h = grind (arith, nat_tests)

run_kind : (b : ℕ) → is_word_byte b ≡ true → kind_at b ≡ 3
run_kind b h = grind (arith, nat_tests)

space_ends_run : (b : ℕ) → is_space b ≡ true → is_word_byte b ≡ false
space_ends_run b h = grind (arith, nat_tests)

bracket_ends_run : (b : ℕ) → is_bracket b ≡ true → is_word_byte b ≡ false
bracket_ends_run b h = grind (arith, nat_tests)

-- the kind of a piece shows at its first byte
kind-first : (b : ℕ) (bytes : List ℕ) (piece : Piece) (rest : List ℕ) → Begins (b ∷ bytes) piece rest → kind_at b ≡ kind_of piece
kind-first b bytes (Space c) rest h =
    let e : c ≡ b = cc h.whole in
    subst (λ x. kind_at x ≡ 0) e (rw h.is_piece)
kind-first b bytes (Comment more) rest h =
    let e : 59 ≡ b = cc h.whole in
    subst (λ x. kind_at x ≡ 1) e refl
kind-first b bytes (Bracket c) rest h =
    let e : c ≡ b = cc h.whole in
    subst (λ x. kind_at x ≡ 2) e (bracket_kind c h.is_piece)
kind-first b bytes (Run []) rest h = absurd (omega (arith, h.is_piece.0))
kind-first b bytes (Run (c ∷ more)) rest h =
    let e : c ≡ b = cc h.whole in
    subst (λ x. kind_at x ≡ 3) e (run_kind c h.is_piece.1.0)

comment_apart : (b : ℕ) → (b == 10) ≡ false → EndsLine b → ⊥
comment_apart b h e = grind (arith, nat_tests)

run_apart : (b : ℕ) → IsTrue (is_word_byte b) → EndsRun b → ⊥
run_apart b h e = false≢true (sym e ∙ h)

-- pieces of one kind at the front of one text are the same
same_kind : (text : List ℕ) (p q : Piece) (rest more : List ℕ) → Begins text p rest → Begins text q more → kind_of p ≡ kind_of q → (p ≡ q) × (rest ≡ more)
same_kind text (Space b) (Space c) rest more h k e =
    let both : b ∷ rest ≡ c ∷ more = h.whole ∙ sym k.whole in (cc, cc)
same_kind text (Bracket b) (Bracket c) rest more h k e =
    let both : b ∷ rest ≡ c ∷ more = h.whole ∙ sym k.whole in (cc, cc)
same_kind text (Comment xs) (Comment ys) rest more h k e =
    let both : 59 ∷ (xs ++ rest) ≡ 59 ∷ (ys ++ more) = h.whole ∙ sym k.whole in
    let tails : xs ++ rest ≡ ys ++ more = cc in
    let ends = one_front (λ b. (b == 10) ≡ false) EndsLine comment_apart xs rest ys more h.is_piece k.is_piece h.longest k.longest tails in
    (ap Comment ends.0, ends.1)
same_kind text (Run xs) (Run ys) rest more h k e =
    let both : xs ++ rest ≡ ys ++ more = h.whole ∙ sym k.whole in
    let ends = one_front (λ b. IsTrue (is_word_byte b)) EndsRun run_apart xs rest ys more h.is_piece.1 k.is_piece.1 h.longest k.longest both in
    (ap Run ends.0, ends.1)
same_kind text p q rest more h k e = absurd (omega arith)

-- a text begins with at most one piece
pub one_piece : (b : ℕ) (bytes : List ℕ) (p q : Piece) (rest more : List ℕ) → Begins (b ∷ bytes) p rest → Begins (b ∷ bytes) q more → (p ≡ q) × (rest ≡ more)
one_piece b bytes p q rest more h k =
    same_kind (b ∷ bytes) p q rest more h k (sym (kind-first b bytes p rest h) ∙ kind-first b bytes q more k)

-- a piece is not empty
pub bytes_nonempty : (p : Piece) → IsPiece p → 0 < length (bytes_of p)
bytes_nonempty (Space b) h = omega arith
bytes_nonempty (Comment bytes) h = omega arith
bytes_nonempty (Bracket b) h = omega arith
bytes_nonempty (Run bytes) h = h.0

-- what may follow a run or a comment
ends_run : (next : Piece) (rest : List ℕ) (bytes : List ℕ) → IsPiece next → MayFollow (Run bytes) next → StartsBy EndsRun (bytes_of next ++ rest)
ends_run (Space b) rest bytes h follows = space_ends_run b h
ends_run (Comment more) rest bytes h follows = refl
ends_run (Bracket b) rest bytes h follows = bracket_ends_run b h
ends_run (Run more) rest bytes h follows = absurd follows

longest_from_follow : (p next : Piece) (pieces : List Piece) → IsPiece next → MayFollow p next → IsLongest p (flat_map bytes_of (next ∷ pieces))
longest_from_follow (Space b) next pieces h follows = tt
longest_from_follow (Comment bytes) next pieces h follows = subst (λ (q : Piece). StartsBy EndsLine (bytes_of q ++ flat_map bytes_of pieces)) (sym follows) refl
longest_from_follow (Bracket b) next pieces h follows = tt
longest_from_follow (Run bytes) next pieces h follows = ends_run next (flat_map bytes_of pieces) bytes h follows

longest_nothing : (p : Piece) → IsLongest p []
longest_nothing (Space b) = tt
longest_nothing (Comment bytes) = tt
longest_nothing (Bracket b) = tt
longest_nothing (Run bytes) = tt

-- the first piece of a cut
pub first_piece : (text : List ℕ) (p : Piece) (pieces : List Piece) → IsCut text (p ∷ pieces) → Begins text p (flat_map bytes_of pieces)
first_piece text p [] h = record { whole = h.covers; is_piece = h.each.0; longest = longest_nothing p }
first_piece text p (next ∷ pieces) h = record { whole = h.covers; is_piece = h.each.0; longest = longest_from_follow p next pieces h.each.1.0 h.follow.0 }

pub rest_of_cut : (text : List ℕ) (p : Piece) (pieces : List Piece) → IsCut text (p ∷ pieces) → IsCut (flat_map bytes_of pieces) pieces
rest_of_cut text p [] h = record { covers = refl; each = h.each.1; follow = tt }
rest_of_cut text p (next ∷ pieces) h = record { covers = refl; each = h.each.1; follow = h.follow.1 }

-- the other way: what follows a run or a comment that went on as long as it could
run_follow : (next : Piece) (rest : List ℕ) (bytes : List ℕ) → IsPiece next → StartsBy EndsRun (bytes_of next ++ rest) → MayFollow (Run bytes) next
run_follow (Space b) rest bytes h ends = tt
run_follow (Comment more) rest bytes h ends = tt
run_follow (Bracket b) rest bytes h ends = tt
run_follow (Run []) rest bytes h ends = absurd (omega (arith, h.0))
run_follow (Run (b ∷ more)) rest bytes h ends = run_apart b h.1.0 ends

line_follow : (next : Piece) (rest : List ℕ) (bytes : List ℕ) → IsPiece next → StartsBy EndsLine (bytes_of next ++ rest) → MayFollow (Comment bytes) next
line_follow (Space b) rest bytes h ends = ap Space ends
line_follow (Comment more) rest bytes h ends = absurd (omega (arith, ends))
line_follow (Bracket b) rest bytes h ends = absurd (false≢true (subst (λ x. is_bracket x ≡ true) ends h))
line_follow (Run []) rest bytes h ends = absurd (omega (arith, h.0))
line_follow (Run (b ∷ more)) rest bytes h ends = absurd (false≢true (subst (λ x. is_word_byte x ≡ true) ends h.1.0))

follow_from_longest : (p next : Piece) (pieces : List Piece) → IsPiece next → IsLongest p (flat_map bytes_of (next ∷ pieces)) → MayFollow p next
follow_from_longest (Space b) next pieces h longest = tt
follow_from_longest (Comment bytes) next pieces h longest = line_follow next (flat_map bytes_of pieces) bytes h longest
follow_from_longest (Bracket b) next pieces h longest = tt
follow_from_longest (Run bytes) next pieces h longest = run_follow next (flat_map bytes_of pieces) bytes h longest

each_follow : (p : Piece) (pieces : List Piece) → AllByRecursion IsPiece pieces → FollowEachOther pieces → IsLongest p (flat_map bytes_of pieces) → FollowEachOther (p ∷ pieces)
each_follow p [] each follow longest = tt
each_follow p (next ∷ pieces) each follow longest = (follow_from_longest p next pieces each.0 longest, follow)

-- a piece in front of a cut
pub one_more : (text : List ℕ) (p : Piece) (rest : List ℕ) (pieces : List Piece) → Begins text p rest → IsCut rest pieces → IsCut text (p ∷ pieces)
one_more text p rest pieces h cut = record {
  covers = subst (λ bytes. bytes_of p ++ bytes ≡ text) (sym cut.covers) h.whole;
  each = (h.is_piece, cut.each);
  follow = each_follow p pieces cut.each cut.follow (subst (IsLongest p) (sym cut.covers) h.longest);
}
