-- The pieces of a text that is laid out.
use Rattle.std.proofs.Common.{◌≡◌, ℕ, ◌+◌, true, false, List, [], ◌∷◌, ◌++◌, map, refl, sym, ap, subst, arith, append_assoc}
use Rattle.std.specs.Prelude.{IsTrue}
use Rattle.std.specs.List.{AllByRecursion}
use Rattle.std.proofs.lemmas.Bool.Decides.{nat_tests}
use Rattle.pddl_lexer.specs.Pieces.{Piece, Space, Bracket, Run, IsCut, is_space, is_word_byte}
use Rattle.pddl_lexer.specs.Tokens.{tokens_from}
use Rattle.pddl_lexer.proofs.Cuts.{StartsBy, EndsRun, one_more}
use Rattle.pddl_print.specs.Layouts.{Part, Parts, Blank, Written, Bracketed, Last, Before, part_bytes, parts_bytes, MayStandBefore, IsLaid, AreLaid}

-- the pieces of a part, and of parts, in front of more pieces
abbrev mutual
  pub part_pieces : Part → List Piece → List Piece
  part_pieces (Blank b) more = Space b ∷ more
  part_pieces (Written text) more = Run text ∷ more
  part_pieces (Bracketed parts) more = Bracket 40 ∷ parts_pieces parts (Bracket 41 ∷ more)

  pub parts_pieces : Parts → List Piece → List Piece
  parts_pieces Last more = more
  parts_pieces (Before part parts) more = part_pieces part (parts_pieces parts more)

space_ends_run : (b : ℕ) → is_space b ≡ true → is_word_byte b ≡ false
space_ends_run b h = grind (arith, nat_tests)

-- the brackets around the bytes of parts
pub bracketed_bytes : (parts : Parts) (back : List ℕ) → part_bytes (Bracketed parts) ++ back ≡ 40 ∷ (parts_bytes parts ++ 41 ∷ back)
bracketed_bytes parts back = ap (λ s. 40 ∷ s) (append_assoc (parts_bytes parts) (41 ∷ []) back)

-- a word ends where the part begins that stands behind it
abbrev MayEndRun : Part → List ℕ → Type 0
MayEndRun (Blank b) back = Unit {0}
MayEndRun (Written text) back = StartsBy EndsRun back
MayEndRun (Bracketed parts) back = Unit {0}

may_end : (part : Part) (parts : Parts) (back : List ℕ) → MayStandBefore part parts → AreLaid parts → StartsBy EndsRun back → MayEndRun part (parts_bytes parts ++ back)
may_end (Blank b) parts back may laid ends = tt
may_end (Bracketed inner) parts back may laid ends = tt
may_end (Written text) Last back may laid ends = ends
may_end (Written text) (Before (Blank b) parts) back may laid ends = space_ends_run b laid.0
may_end (Written text) (Before (Written more) parts) back may laid ends = absurd may
may_end (Written text) (Before (Bracketed inner) parts) back may laid ends = refl

mutual
  cut_part : (part : Part) (back : List ℕ) (more : List Piece) → IsLaid part → MayEndRun part back → IsCut back more → IsCut (part_bytes part ++ back) (part_pieces part more)
  cut_part (Blank b) back more laid ends cut = one_more (b ∷ back) (Space b) back more (record { whole = refl; is_piece = laid; longest = tt }) cut
  cut_part (Written text) back more laid ends cut = one_more (text ++ back) (Run text) back more (record { whole = refl; is_piece = (laid.some, laid.bytes); longest = ends }) cut
  cut_part (Bracketed parts) back more laid ends cut =
      let closing = one_more (41 ∷ back) (Bracket 41) back more (record { whole = refl; is_piece = refl; longest = tt }) cut in
      let inside = cut_parts parts (41 ∷ back) (Bracket 41 ∷ more) laid refl closing in
      one_more (part_bytes (Bracketed parts) ++ back) (Bracket 40) (parts_bytes parts ++ 41 ∷ back) (parts_pieces parts (Bracket 41 ∷ more)) (record { whole = sym (bracketed_bytes parts back); is_piece = refl; longest = tt }) inside

  cut_parts : (parts : Parts) (back : List ℕ) (more : List Piece) → AreLaid parts → StartsBy EndsRun back → IsCut back more → IsCut (parts_bytes parts ++ back) (parts_pieces parts more)
  cut_parts Last back more laid ends cut = cut
  cut_parts (Before part parts) back more laid ends cut =
      subst (λ s. IsCut s (part_pieces part (parts_pieces parts more))) (sym (append_assoc (part_bytes part) (parts_bytes parts) back))
      (cut_part part (parts_bytes parts ++ back) (parts_pieces parts more) laid.0 (may_end part parts back laid.1 laid.2 ends) (cut_parts parts back more laid.2 ends cut))

-- what stands behind the last bracket
pub cut_spaces : (behind : List ℕ) → AllByRecursion (λ b. IsTrue (is_space b)) behind → IsCut behind (map Space behind)
cut_spaces [] spaces = record { covers = refl; each = tt; follow = tt }
cut_spaces (b ∷ behind) spaces = one_more (b ∷ behind) (Space b) behind (map Space behind) (record { whole = refl; is_piece = spaces.0; longest = tt }) (cut_spaces behind spaces.1)

pub no_tokens : (behind : List ℕ) (at : ℕ) → tokens_from at (map Space behind) ≡ []
no_tokens [] at = refl
no_tokens (b ∷ behind) at = no_tokens behind (at + 1)

-- the pieces of a whole text
pub text_cut : (parts : Parts) (behind : List ℕ) → AreLaid parts → AllByRecursion (λ b. IsTrue (is_space b)) behind → IsCut (40 ∷ (parts_bytes parts ++ 41 ∷ behind)) (part_pieces (Bracketed parts) (map Space behind))
text_cut parts behind laid spaces =
    subst (λ s. IsCut s (part_pieces (Bracketed parts) (map Space behind))) (bracketed_bytes parts behind) (cut_part (Bracketed parts) behind (map Space behind) laid tt (cut_spaces behind spaces))
