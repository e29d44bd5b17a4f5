-- Pieces from the front of a text, each as long as it can be.
use Rattle.std.proofs.Common.{◌≡◌, ℕ, suc, ◌+◌, ◌<◌, ◌≤◌, Bool, true, false, cond, not, ◌||◌, List, [], ◌∷◌, ◌++◌, length, take, drop, get_or, refl, sym, ap, ◌∙◌, subst, arith, append_assoc, append-nil, take-append-drop, length-append, one-add}
use Rattle.std.specs.Prelude.{IsTrue, ◌==◌}
use Rattle.std.specs.List.{AllByRecursion, flat_map, prefix_len}
use Rattle.std.proofs.lemmas.List.{drop_more, drop_all, drop-drop}
use Rattle.std.proofs.lemmas.List.Folds.{length-prefix_len}
use Rattle.std.proofs.lemmas.Bool.{false≢true, eqb-true, not-true, not-false}
use Rattle.std.proofs.lemmas.Bool.Decides.{nat_tests}
use Rattle.pddl_lexer.specs.declared.token.Token.{Token}
use Rattle.pddl_lexer.specs.declared.token.TokenKind.TheVariants.{Open, Close, Word}
use Rattle.pddl_lexer.specs.Pieces.{Piece, Space, Comment, Bracket, Run, bytes_of, IsPiece, IsCut, is_space, is_bracket, is_word_byte}
use Rattle.pddl_lexer.specs.Tokens.{AreTokens, AreSpans, IsFirstBad, EndOutside, tokens_from, kind_of, is_bad}
use Rattle.pddl_lexer.proofs.Cuts.{StartsBy, EndsLine, EndsRun, IsLongest, Begins, one_piece, first_piece, rest_of_cut, one_more, bytes_nonempty}

-- the text is made of the pieces, each as long as it can be, and of the rest
abbrev pub Chain : List ℕ → List Piece → List ℕ → Type 0
Chain text [] rest = text ≡ rest
Chain text (p ∷ pieces) rest = (mid : List ℕ) × Begins text p mid × Chain mid pieces rest

-- no piece begins here
abbrev pub IsStuck : List ℕ → Type 0
IsStuck [] = Unit {0}
IsStuck (b ∷ bytes) = IsTrue (is_bad b)

bad_space : (b : ℕ) → is_bad b ≡ true → is_space b ≡ true → ⊥
bad_space b h e = grind (arith, nat_tests)

bad_bracket : (b : ℕ) → is_bad b ≡ true → is_bracket b ≡ true → ⊥
bad_bracket b h e = grind (arith, nat_tests)

bad_word : (b : ℕ) → is_bad b ≡ true → is_word_byte b ≡ true → ⊥
bad_word b h e = grind (arith, nat_tests)

bad_ends_run : (b : ℕ) → is_bad b ≡ true → is_word_byte b ≡ false
bad_ends_run b h = grind (arith, nat_tests)

bad_by_tests : (b : ℕ) → is_space b ≡ false → (b ≡ 59 → ⊥) → is_bracket b ≡ false → is_word_byte b ≡ false → is_bad b ≡ true
bad_by_tests b no_space no_comment no_bracket no_word = grind (arith, nat_tests)

no_piece : (rest more : List ℕ) (p : Piece) → IsStuck rest → Begins rest p more → ⊥
no_piece [] more p stuck h = omega (arith, bytes_nonempty p h.is_piece, ap length h.whole, length-append (bytes_of p) more)
no_piece (b ∷ bytes) more (Space c) stuck h =
    let e : c ≡ b = cc h.whole in
    bad_space b stuck (subst (λ x. is_space x ≡ true) e h.is_piece)
no_piece (b ∷ bytes) more (Comment c) stuck h =
    let e : b ≡ 59 = cc h.whole in
    false≢true (subst (λ x. is_bad x ≡ true) e stuck)
no_piece (b ∷ bytes) more (Bracket c) stuck h =
    let e : c ≡ b = cc h.whole in
    bad_bracket b stuck (subst (λ x. is_bracket x ≡ true) e h.is_piece)
no_piece (b ∷ bytes) more (Run []) stuck h = omega (arith, h.is_piece.0)
no_piece (b ∷ bytes) more (Run (c ∷ cs)) stuck h =
    let e : c ≡ b = cc h.whole in
    bad_word b stuck (subst (λ x. is_word_byte x ≡ true) e h.is_piece.1.0)

-- pieces of one text that can't go on are the same
one_chain : (ps qs : List Piece) (text rest more : List ℕ) → IsStuck rest → IsStuck more → Chain text ps rest → Chain text qs more → (ps ≡ qs) × (rest ≡ more)
one_chain [] [] text rest more stuck ends h k = (refl, sym h ∙ k)
one_chain [] (q ∷ qs) text rest more stuck ends h k = absurd (no_piece rest k.0 q stuck (subst (λ s. Begins s q k.0) h k.1))
one_chain (p ∷ ps) [] text rest more stuck ends h k = absurd (no_piece more h.0 p ends (subst (λ s. Begins s p h.0) k h.1))
one_chain (p ∷ ps) (q ∷ qs) [] rest more stuck ends h k = absurd (no_piece [] h.0 p tt h.1)
one_chain (p ∷ ps) (q ∷ qs) (b ∷ bytes) rest more stuck ends h k =
    let first = one_piece b bytes p q h.0 k.0 h.1 k.1 in
    let others = one_chain ps qs h.0 rest more stuck ends h.2 (subst (λ s. Chain s qs more) (sym first.1) k.2) in
    (cc (first.0, others.0), others.1)

chain_of_cut : (pieces : List Piece) (text : List ℕ) → IsCut text pieces → Chain text pieces []
chain_of_cut [] text cut = sym cut.covers
chain_of_cut (p ∷ pieces) text cut = (flat_map bytes_of pieces, first_piece text p pieces cut, chain_of_cut pieces (flat_map bytes_of pieces) (rest_of_cut text p pieces cut))

cut_of_chain : (pieces : List Piece) (text : List ℕ) → Chain text pieces [] → IsCut text pieces
cut_of_chain [] text e = record { covers = sym e; each = tt; follow = tt }
cut_of_chain (p ∷ pieces) text h = one_more text p h.0 pieces h.1 (cut_of_chain pieces h.0 h.2)

-- a front of what follows a longest piece, and more behind it
starts_front : (P : ℕ → Type 0) (xs tail : List ℕ) → StartsBy P (xs ++ tail) → StartsBy P xs
starts_front P [] tail h = tt
starts_front P (x ∷ xs) tail h = h

starts_more : (P : ℕ → Type 0) (xs tail : List ℕ) → 0 < length xs → StartsBy P xs → StartsBy P (xs ++ tail)
starts_more P [] tail some h = absurd (omega (arith, some))
starts_more P (x ∷ xs) tail some h = h

longest_front : (p : Piece) (xs tail : List ℕ) → IsLongest p (xs ++ tail) → IsLongest p xs
longest_front (Space b) xs tail h = tt
longest_front (Comment bytes) xs tail h = starts_front EndsLine xs tail h
longest_front (Bracket b) xs tail h = tt
longest_front (Run bytes) xs tail h = starts_front EndsRun xs tail h

some_bytes : (q : Piece) (qs : List Piece) → IsPiece q → 0 < length (flat_map bytes_of (q ∷ qs))
some_bytes q qs h = omega (arith, bytes_nonempty q h, length-append (bytes_of q) (flat_map bytes_of qs))

longest_before_bad : (p : Piece) (pieces : List Piece) (b : ℕ) (bytes : List ℕ) → is_bad b ≡ true → EndOutside (p ∷ pieces) → AllByRecursion IsPiece pieces
    → IsLongest p (flat_map bytes_of pieces) → IsLongest p (flat_map bytes_of pieces ++ b ∷ bytes)
longest_before_bad (Space c) pieces b bytes bad outside each h = tt
longest_before_bad (Comment c) [] b bytes bad outside each h = absurd outside
longest_before_bad (Comment c) (q ∷ qs) b bytes bad outside each h = starts_more EndsLine (flat_map bytes_of (q ∷ qs)) (b ∷ bytes) (some_bytes q qs each.0) h
longest_before_bad (Bracket c) pieces b bytes bad outside each h = tt
longest_before_bad (Run c) [] b bytes bad outside each h = bad_ends_run b bad
longest_before_bad (Run c) (q ∷ qs) b bytes bad outside each h = starts_more EndsRun (flat_map bytes_of (q ∷ qs)) (b ∷ bytes) (some_bytes q qs each.0) h

outside_rest : (p : Piece) (pieces : List Piece) → EndOutside (p ∷ pieces) → EndOutside pieces
outside_rest (Space b) pieces h = h
outside_rest (Comment bytes) [] h = absurd h
outside_rest (Comment bytes) (q ∷ qs) h = h
outside_rest (Bracket b) pieces h = h
outside_rest (Run bytes) pieces h = h

outside_more : (p : Piece) (pieces : List Piece) (b : ℕ) (bytes : List ℕ) → is_bad b ≡ true → IsLongest p (flat_map bytes_of pieces ++ b ∷ bytes) → EndOutside pieces → EndOutside (p ∷ pieces)
outside_more (Space c) pieces b bytes bad longest h = h
outside_more (Comment c) [] b bytes bad longest h = absurd (false≢true (subst (λ x. is_bad x ≡ true) longest bad))
outside_more (Comment c) (q ∷ qs) b bytes bad longest h = h
outside_more (Bracket c) pieces b bytes bad longest h = h
outside_more (Run c) pieces b bytes bad longest h = h

-- pieces before a bad byte, from their cut and back
chain_of_front : (pieces : List Piece) (front : List ℕ) (b : ℕ) (bytes : List ℕ) → is_bad b ≡ true → IsCut front pieces → EndOutside pieces → Chain (front ++ b ∷ bytes) pieces (b ∷ bytes)
chain_of_front [] front b bytes bad cut outside = ap (λ s. s ++ b ∷ bytes) (sym cut.covers)
chain_of_front (p ∷ pieces) front b bytes bad cut outside =
    let first = first_piece front p pieces cut in
    let more = flat_map bytes_of pieces in
    let begins : Begins (front ++ b ∷ bytes) p (more ++ b ∷ bytes) = record {
      whole = sym (append_assoc (bytes_of p) more (b ∷ bytes)) ∙ ap (λ s. s ++ b ∷ bytes) cut.covers;
      is_piece = first.is_piece;
      longest = longest_before_bad p pieces b bytes bad outside cut.each.1 first.longest;
    } in
    (more ++ b ∷ bytes, begins, chain_of_front pieces more b bytes bad (rest_of_cut front p pieces cut) (outside_rest p pieces outside))

record IsFront (text : List ℕ) (pieces : List Piece) (b : ℕ) (bytes : List ℕ) : Type 0 where
  pub whole : flat_map bytes_of pieces ++ b ∷ bytes ≡ text
  pub cut : IsCut (flat_map bytes_of pieces) pieces
  pub outside : EndOutside pieces

front_of_chain : (pieces : List Piece) (text : List ℕ) (b : ℕ) (bytes : List ℕ) → is_bad b ≡ true → Chain text pieces (b ∷ bytes) → IsFront text pieces b bytes
front_of_chain [] text b bytes bad e = record { whole = sym e; cut = record { covers = refl; each = tt; follow = tt }; outside = tt }
front_of_chain (p ∷ pieces) text b bytes bad h =
    let more = flat_map bytes_of pieces in
    let rest = front_of_chain pieces h.0 b bytes bad h.2 in
    let longest : IsLongest p (more ++ b ∷ bytes) = subst (IsLongest p) (sym rest.whole) h.1.longest in
    let begins : Begins (bytes_of p ++ more) p more = record { whole = refl; is_piece = h.1.is_piece; longest = longest_front p more (b ∷ bytes) longest } in
    record {
      whole = append_assoc (bytes_of p) more (b ∷ bytes) ∙ ap (λ s. bytes_of p ++ s) rest.whole ∙ h.1.whole;
      cut = one_more (bytes_of p ++ more) p more pieces begins rest.cut;
      outside = outside_more p pieces b bytes bad longest rest.outside;
    }

chain_more : (pieces : List Piece) (text mid rest : List ℕ) (p : Piece) → Chain text pieces mid → Begins mid p rest → Chain text (pieces ++ p ∷ []) rest
chain_more [] text mid rest p e h = (rest, subst (λ s. Begins s p rest) (sym e) h, refl)
chain_more (q ∷ pieces) text mid rest p c h = (c.0, c.1, chain_more pieces c.0 mid rest p c.2 h)

length_more : (pieces : List Piece) (p : Piece) → length (flat_map bytes_of (pieces ++ p ∷ [])) ≡ length (flat_map bytes_of pieces) + length (bytes_of p)
length_more [] p = omega (arith, ap length (append-nil (bytes_of p)))
length_more (q ∷ pieces) p =
    omega (arith, length-append (bytes_of q) (flat_map bytes_of (pieces ++ p ∷ [])), length-append (bytes_of q) (flat_map bytes_of pieces), length_more pieces p)

-- the tokens of a piece that stands at the place
abbrev pub tokens_in : ℕ → Piece → List Token
tokens_in at (Space b) = []
tokens_in at (Comment bytes) = []
tokens_in at (Bracket b) = record { kind = kind_of b; from = at; to = at + 1 } ∷ []
tokens_in at (Run bytes) = record { kind = Word; from = at; to = at + length bytes } ∷ []

tokens_from-cons : (at : ℕ) (p : Piece) (pieces : List Piece) → tokens_from at (p ∷ pieces) ≡ tokens_in at p ++ tokens_from (at + length (bytes_of p)) pieces
tokens_from-cons at (Space b) pieces = refl
tokens_from-cons at (Comment bytes) pieces = let e : at + 1 + length bytes ≡ at + suc (length bytes) = omega arith in ap (λ n. tokens_from n pieces) e
tokens_from-cons at (Bracket b) pieces = refl
tokens_from-cons at (Run bytes) pieces = refl

tokens_from-more : (pieces : List Piece) (at : ℕ) (p : Piece) → tokens_from at (pieces ++ p ∷ []) ≡ tokens_from at pieces ++ tokens_in (at + length (flat_map bytes_of pieces)) p
tokens_from-more [] at p = tokens_from-cons at p [] ∙ append-nil (tokens_in at p) ∙ ap (λ k. tokens_in k p) (let e : at ≡ at + 0 = omega arith in e)
tokens_from-more (q ∷ pieces) at p =
    let next = at + length (bytes_of q) in
    let place : next + length (flat_map bytes_of pieces) ≡ at + length (flat_map bytes_of (q ∷ pieces)) = omega (arith, length-append (bytes_of q) (flat_map bytes_of pieces)) in
    tokens_from-cons at q (pieces ++ p ∷ []) ∙ ap (λ ts. tokens_in at q ++ ts) (tokens_from-more pieces next p ∙ ap (λ k. tokens_from next pieces ++ tokens_in k p) place)
    ∙ sym (append_assoc (tokens_in at q) (tokens_from next pieces) (tokens_in (at + length (flat_map bytes_of (q ∷ pieces))) p)) ∙ ap (λ ts. ts ++ tokens_in (at + length (flat_map bytes_of (q ∷ pieces))) p) (sym (tokens_from-cons at q pieces))

spans_before : (a b end : ℕ) (ts : List Token) → a ≤ b → AreSpans b end ts → AreSpans a end ts
spans_before a b end [] below h = omega (arith, h)
spans_before a b end (t ∷ ts) below h = (omega (arith, h.0), h.1, h.2)

spans_in : (p : Piece) (at end : ℕ) (ts : List Token) → IsPiece p → AreSpans (at + length (bytes_of p)) end ts → AreSpans at end (tokens_in at p ++ ts)
spans_in (Space b) at end ts is h = spans_before at (at + 1) end ts (omega arith) h
spans_in (Comment bytes) at end ts is h = spans_before at (at + length (59 ∷ bytes)) end ts (omega arith) h
spans_in (Bracket b) at end ts is h = (omega arith, omega arith, h)
spans_in (Run bytes) at end ts is h = (omega arith, omega (arith, is.0), h)

spans_of : (pieces : List Piece) (at : ℕ) → AllByRecursion IsPiece pieces → AreSpans at (at + length (flat_map bytes_of pieces)) (tokens_from at pieces)
spans_of [] at each = omega arith
spans_of (p ∷ pieces) at each =
    let next = at + length (bytes_of p) in
    let same : next + length (flat_map bytes_of pieces) ≡ at + length (flat_map bytes_of (p ∷ pieces)) = omega (arith, length-append (bytes_of p) (flat_map bytes_of pieces)) in
    subst (AreSpans at (at + length (flat_map bytes_of (p ∷ pieces)))) (sym (tokens_from-cons at p pieces))
    (spans_in p at (at + length (flat_map bytes_of (p ∷ pieces))) (tokens_from next pieces) each.0 (subst (λ end. AreSpans next end (tokens_from next pieces)) same (spans_of pieces next each.1)))

pub spans_of_tokens : (text : List ℕ) (tokens : List Token) → AreTokens text tokens → AreSpans 0 (length text) tokens
spans_of_tokens text tokens h =
    let end : 0 + length (flat_map bytes_of h.pieces) ≡ length text = omega (arith, ap length h.cut.covers) in
    subst (λ e. AreSpans 0 e tokens) end (subst (AreSpans 0 (0 + length (flat_map bytes_of h.pieces))) h.give (spans_of h.pieces 0 h.cut.each))

-- the pass stands at the place and has found these tokens
pub record Reads (text : List ℕ) (at : ℕ) (found : List Token) : Type 0 where
  pub pieces : List Piece
  pub chain : Chain text pieces (drop at text)
  pub place : length (flat_map bytes_of pieces) ≡ at
  pub give : tokens_from 0 pieces ≡ found

pub nothing_yet : (text : List ℕ) → Reads text 0 []
nothing_yet text = record { pieces = []; chain = refl; place = refl; give = refl }

step : (text : List ℕ) (at n : ℕ) (found : List Token) (p : Piece) → Reads text at found → Begins (drop at text) p (drop (at + n) text) → length (bytes_of p) ≡ n
    → Reads text (at + n) (found ++ tokens_in at p)
step text at n found p h begins same_length = record {
  pieces = h.pieces ++ p ∷ [];
  chain = chain_more h.pieces text (drop at text) (drop (at + n) text) p h.chain begins;
  place = length_more h.pieces p ∙ ap (λ k. k + length (bytes_of p)) h.place ∙ ap (λ k. at + k) same_length;
  give = tokens_from-more h.pieces 0 p ∙ ap (λ ts. ts ++ tokens_in (0 + length (flat_map bytes_of h.pieces)) p) h.give ∙ ap (λ k. found ++ tokens_in k p) (let e : 0 + length (flat_map bytes_of h.pieces) ≡ at = omega (arith, h.place) in e);
}

-- the longest front whose bytes pass
front_passes : (p : ℕ → Bool) (xs : List ℕ) → AllByRecursion (λ b. p b ≡ true) (take (prefix_len p xs) xs)
front_passes p [] = tt
front_passes p (x ∷ xs) = by_test (p x) refl (front_passes p xs)
  where
    by_test : (b : Bool) → p x ≡ b → AllByRecursion (λ c. p c ≡ true) (take (prefix_len p xs) xs) → AllByRecursion (λ c. p c ≡ true) (take (cond b (1 + prefix_len p xs) 0) (x ∷ xs))
    by_test true e more = rw one-add (e, more)
    by_test false e more = tt

front_ends : (p : ℕ → Bool) (xs : List ℕ) → StartsBy (λ b. p b ≡ false) (drop (prefix_len p xs) xs)
front_ends p [] = tt
front_ends p (x ∷ xs) = by_test (p x) refl (front_ends p xs)
  where
    by_test : (b : Bool) → p x ≡ b → StartsBy (λ c. p c ≡ false) (drop (prefix_len p xs) xs) → StartsBy (λ c. p c ≡ false) (drop (cond b (1 + prefix_len p xs) 0) (x ∷ xs))
    by_test true e more = rw one-add more
    by_test false e more = e

no_line_feed : (bytes : List ℕ) → AllByRecursion (λ b. not (b == 10) ≡ true) bytes → AllByRecursion (λ b. (b == 10) ≡ false) bytes
no_line_feed [] h = tt
no_line_feed (b ∷ bytes) h = (not-true (b == 10) h.0, no_line_feed bytes h.1)

line_feed_first : (bytes : List ℕ) → StartsBy (λ b. not (b == 10) ≡ false) bytes → StartsBy EndsLine bytes
line_feed_first [] h = tt
line_feed_first (b ∷ bytes) h = eqb-true b 10 (not-false (b == 10) h)

word_kind : (b : ℕ) → is_bracket b ≡ false → kind_of b ≡ Word
word_kind b h = by_tests (b == 40) (b == 41) h
  where
    by_tests : (v w : Bool) → (v || w) ≡ false → cond v Open (cond w Close Word) ≡ Word
    by_tests false false h = refl
    by_tests false true h = absurd (false≢true (sym h))
    by_tests true w h = absurd (false≢true (sym h))

module _ (text : List ℕ) (at : ℕ) (found : List Token) (h : Reads text at found) (in_text : at < length text) where
  front : drop at text ≡ get_or text at 0 ∷ drop (at + 1) text
  front = drop_more text at 0 in_text

  pub past_space : is_space (get_or text at 0) ≡ true → Reads text (at + 1) found
  past_space e =
      let begins : Begins (drop at text) (Space (get_or text at 0)) (drop (at + 1) text) = record { whole = sym front; is_piece = e; longest = tt } in
      subst (Reads text (at + 1)) (append-nil found) (step text at 1 found (Space (get_or text at 0)) h begins refl)

  past_bracket : is_bracket (get_or text at 0) ≡ true → Reads text (at + 1) (found ++ record { kind = kind_of (get_or text at 0); from = at; to = at + 1 } ∷ [])
  past_bracket e =
      let begins : Begins (drop at text) (Bracket (get_or text at 0)) (drop (at + 1) text) = record { whole = sym front; is_piece = e; longest = tt } in
      step text at 1 found (Bracket (get_or text at 0)) h begins refl

  rest_at : (n : ℕ) → drop (at + n) text ≡ drop n (drop at text)
  rest_at n = sym (drop-drop n at text)

  past_run : 0 < prefix_len is_word_byte (drop at text)
      → Reads text (at + prefix_len is_word_byte (drop at text)) (found ++ record { kind = Word; from = at; to = at + prefix_len is_word_byte (drop at text) } ∷ [])
  past_run some =
      let n = prefix_len is_word_byte (drop at text) in
      let run = take n (drop at text) in
      let same_length : length run ≡ n = length-prefix_len is_word_byte (drop at text) in
      let begins : Begins (drop at text) (Run run) (drop (at + n) text) = record {
        whole = ap (λ s. run ++ s) (rest_at n) ∙ take-append-drop n (drop at text);
        is_piece = (omega arith, front_passes is_word_byte (drop at text));
        longest = subst (StartsBy EndsRun) (sym (rest_at n)) (front_ends is_word_byte (drop at text));
      } in
      subst (λ k. Reads text (at + n) (found ++ record { kind = Word; from = at; to = at + k } ∷ [])) same_length (step text at n found (Run run) h begins same_length)

  first_byte : get_or (drop at text) 0 0 ≡ get_or text at 0
  first_byte = ap (λ s. get_or s 0 0) front

  pub past_token : (n : ℕ) → n ≡ cond (is_bracket (get_or (drop at text) 0 0)) 1 (prefix_len is_word_byte (drop at text)) → 0 < n
      → Reads text (at + n) (found ++ record { kind = kind_of (get_or text at 0); from = at; to = at + n } ∷ [])
  past_token n value some =
      let Goal : ℕ → Type 0 = λ k. Reads text (at + k) (found ++ record { kind = kind_of (get_or text at 0); from = at; to = at + k } ∷ []) in
      let at_test : (b : Bool) → is_bracket (get_or (drop at text) 0 0) ≡ b → n ≡ cond b 1 (prefix_len is_word_byte (drop at text)) = λ b e. value ∙ ap (λ v. cond v 1 (prefix_len is_word_byte (drop at text))) e in
      elim (is_bracket (get_or (drop at text) 0 0)) as (λ v. is_bracket (get_or (drop at text) 0 0) ≡ v → Goal n) [
        | true ↦ λ e. subst Goal (sym (at_test true e)) (past_bracket (subst (λ x. is_bracket x ≡ true) first_byte e))
        | false ↦ λ e.
            let m = prefix_len is_word_byte (drop at text) in
            let word = word_kind (get_or text at 0) (subst (λ x. is_bracket x ≡ false) first_byte e) in
            subst Goal (sym (at_test false e)) (subst (λ kind. Reads text (at + m) (found ++ record { kind = kind; from = at; to = at + m } ∷ [])) (sym word) (past_run (subst (λ k. 0 < k) (at_test false e) some)))
      ] refl

  pub past_comment : get_or text at 0 ≡ 59 → Reads text (at + prefix_len (λ b. not (b == 10)) (drop at text)) found
  past_comment e =
      let bytes = drop (at + 1) text in
      let k = prefix_len (λ b. not (b == 10)) bytes in
      let line = front ∙ ap (λ b. b ∷ bytes) e in
      let n_is : prefix_len (λ b. not (b == 10)) (drop at text) ≡ 1 + k = ap (prefix_len (λ b. not (b == 10))) line in
      let rest_is : drop (at + (1 + k)) text ≡ drop k bytes = rest_at (1 + k) ∙ ap (drop (1 + k)) line ∙ rw one-add refl in
      let begins : Begins (drop at text) (Comment (take k bytes)) (drop (at + (1 + k)) text) = record {
        whole = ap (λ s. 59 ∷ (take k bytes ++ s)) rest_is ∙ ap (λ s. 59 ∷ s) (take-append-drop k bytes) ∙ sym line;
        is_piece = no_line_feed (take k bytes) (front_passes (λ b. not (b == 10)) bytes);
        longest = subst (StartsBy EndsLine) (sym rest_is) (line_feed_first (drop k bytes) (front_ends (λ b. not (b == 10)) bytes));
      } in
      let same_length : length (bytes_of (Comment (take k bytes))) ≡ 1 + k = omega (arith, length-prefix_len (λ b. not (b == 10)) bytes) in
      subst (λ n. Reads text (at + n) found) (sym n_is) (subst (Reads text (at + (1 + k))) (append-nil found) (step text at (1 + k) found (Comment (take k bytes)) h begins same_length))

  -- the byte at the place begins no piece
  pub is_bad_here : is_space (get_or text at 0) ≡ false → (get_or text at 0 ≡ 59 → ⊥) → 0 ≡ cond (is_bracket (get_or (drop at text) 0 0)) 1 (prefix_len is_word_byte (drop at text))
      → is_bad (get_or text at 0) ≡ true
  is_bad_here no_space no_comment no_token =
      let b = get_or text at 0 in
      let at_front : 0 ≡ cond (is_bracket b) 1 (cond (is_word_byte b) (1 + prefix_len is_word_byte (drop (at + 1) text)) 0) =
      subst (λ s. 0 ≡ cond (is_bracket (get_or s 0 0)) 1 (prefix_len is_word_byte s)) front no_token in
      let tests = by_tests (is_bracket b) (is_word_byte b) (prefix_len is_word_byte (drop (at + 1) text)) at_front in
      bad_by_tests b no_space no_comment tests.0 tests.1
    where
      by_tests : (v w : Bool) (n : ℕ) → 0 ≡ cond v 1 (cond w (1 + n) 0) → (v ≡ false) × (w ≡ false)
      by_tests false false n e = (refl, refl)
      by_tests false true n e = absurd (omega (arith, e))
      by_tests true w n e = absurd (omega (arith, e))

  module _ (bad : is_bad (get_or text at 0) ≡ true) where
    to_bad : Chain text h.pieces (get_or text at 0 ∷ drop (at + 1) text)
    to_bad = subst (Chain text h.pieces) front h.chain

    pub first_bad : IsFirstBad text at
    first_bad =
        let parts = front_of_chain h.pieces text (get_or text at 0) (drop (at + 1) text) bad to_bad in
        record {
          front = flat_map bytes_of h.pieces;
          byte = get_or text at 0;
          rest = drop (at + 1) text;
          whole = parts.whole;
          at_place = h.place;
          is_bad = bad;
          pieces = h.pieces;
          cut = parts.cut;
          outside = parts.outside;
        }

    pub no_tokens : (tokens : List Token) → AreTokens text tokens → ⊥
    no_tokens tokens are =
        let same = one_chain are.pieces h.pieces text [] (get_or text at 0 ∷ drop (at + 1) text) tt bad (chain_of_cut are.pieces text are.cut) to_bad in
        let e : ◌≡◌ {A = List ℕ} [] (get_or text at 0 ∷ drop (at + 1) text) = same.1 in
        cc

    pub one_bad : (place : ℕ) → IsFirstBad text place → place ≡ at
    one_bad place other =
        let chain = subst (λ s. Chain s other.pieces (other.byte ∷ other.rest)) other.whole (chain_of_front other.pieces other.front other.byte other.rest other.is_bad other.cut other.outside) in
        let same = one_chain other.pieces h.pieces text (other.byte ∷ other.rest) (get_or text at 0 ∷ drop (at + 1) text) other.is_bad bad chain to_bad in
        sym other.at_place ∙ ap length (sym other.cut.covers) ∙ ap (λ pieces. length (flat_map bytes_of pieces)) same.0 ∙ h.place

-- at the end of the text
module _ (text : List ℕ) (at : ℕ) (found : List Token) (h : Reads text at found) (past : length text ≤ at) where
  to_end : Chain text h.pieces []
  to_end = subst (Chain text h.pieces) (drop_all at text past) h.chain

  pub all_found : AreTokens text found
  all_found = record { pieces = h.pieces; cut = cut_of_chain h.pieces text to_end; give = h.give }

  pub only_found : (tokens : List Token) → AreTokens text tokens → found ≡ tokens
  only_found tokens are =
      let same = one_chain h.pieces are.pieces text [] [] tt tt to_end (chain_of_cut are.pieces text are.cut) in
      sym h.give ∙ ap (tokens_from 0) same.0 ∙ are.give

  pub none_bad : (place : ℕ) → IsFirstBad text place → ⊥
  none_bad place other =
      let chain = subst (λ s. Chain s other.pieces (other.byte ∷ other.rest)) other.whole (chain_of_front other.pieces other.front other.byte other.rest other.is_bad other.cut other.outside) in
      let same = one_chain other.pieces h.pieces text (other.byte ∷ other.rest) [] other.is_bad tt chain to_end in
      let e : ◌≡◌ {A = List ℕ} (other.byte ∷ other.rest) [] = same.1 in
      cc
