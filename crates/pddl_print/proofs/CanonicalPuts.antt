-- What is put before other parts: its text, its forms, its depth, and that no two words touch.
use Rattle.std.proofs.Common.{◌≡◌, ℕ, ◌&&◌, ◌+◌, ◌<◌, ◌≤◌, Bool, true, false, List, [], ◌∷◌, ◌++◌, map, length, refl, sym, ap, ◌∙◌, subst, arith, append_assoc, append-nil}
use Rattle.std.specs.Prelude.{IsTrue, All}
use Rattle.std.specs.List.{AllByRecursion, flat_map, list_all}
use Rattle.std.specs.Str.{str_to_ascii_lowercase}
use Rattle.std.proofs.Math.Nat.{max-le}
use Rattle.std.proofs.lemmas.Bool.{false≢true}
use Rattle.std.proofs.lemmas.List.Elements.{All-head, All-tail}
use Rattle.pddl_lexer.specs.Pieces.{is_space, is_word_byte}
use Rattle.pddl_reader.specs.Forms.{Form, group}
use Rattle.pddl_print.specs.Canonical.{spaced, separated, section_text}
use Rattle.pddl_print.specs.CanonicalForms.{word}
use Rattle.pddl_print.specs.CanonicalParts.{written, bracketed, space, line_end, each_parts, spaced_parts, separated_parts, section_parts}
use Rattle.pddl_print.specs.Layouts.{Parts, Blank, Written, Bracketed, Last, Before, parts_bytes, parts_forms, parts_depth, IsWritable, MayStandBefore, AreLaid}

-- no word comes first
abbrev pub NoWordFirst : Parts → Type 0
NoWordFirst (Before (Written text) parts) = ⊥
NoWordFirst parts = Unit {0}

-- what is put before other parts begins with no word, unless those do
abbrev pub BeginsApart : (Parts → Parts) → Type 0
BeginsApart put = (behind : Parts) → NoWordFirst behind → NoWordFirst (put behind)

-- what is put before other parts has this text, these forms and at most this depth, and is laid
pub record Puts (put : Parts → Parts) (text : List ℕ) (forms : List Form) (depth : ℕ) : Type 0 where
  pub bytes : (behind : Parts) → parts_bytes (put behind) ≡ text ++ parts_bytes behind
  pub spelt : (behind : Parts) → parts_forms (put behind) ≡ forms ++ parts_forms behind
  pub deep : (behind : Parts) (n : ℕ) → depth ≤ n → parts_depth behind ≤ n → parts_depth (put behind) ≤ n
  pub laid : (behind : Parts) → NoWordFirst behind → AreLaid behind → AreLaid (put behind)

both : (a b : Bool) → (a && b) ≡ true → (a ≡ true) × (b ≡ true)
both true b h = (refl, h)
both false b h = absurd (false≢true h)

word_bytes : (text : List ℕ) → list_all is_word_byte text ≡ true → AllByRecursion (λ b. IsTrue (is_word_byte b)) text
word_bytes [] h = tt
word_bytes (b ∷ text) h = let tests = both (is_word_byte b) (list_all is_word_byte text) h in (tests.0, word_bytes text tests.1)

-- a word that is known, by tests that compute
pub keyword : (text : List ℕ) → 0 < length text → list_all is_word_byte text ≡ true → str_to_ascii_lowercase text ≡ text → IsWritable text
keyword text some bytes folded = record { some = some; bytes = word_bytes text bytes; folded = folded }

behind_word : (text : List ℕ) (behind : Parts) → NoWordFirst behind → MayStandBefore (Written text) behind
behind_word text Last h = tt
behind_word text (Before (Blank b) parts) h = tt
behind_word text (Before (Written more) parts) h = absurd h
behind_word text (Before (Bracketed inside) parts) h = tt

pub puts_word : (text : List ℕ) → IsWritable text → Puts (written text) text (word text ∷ []) 0
puts_word text is = record {
  bytes = λ behind. refl;
  spelt = λ behind. refl;
  deep = λ behind n here rest. max-le here rest;
  laid = λ behind apart laid. (is, behind_word text behind apart, laid);
}

pub puts_blank : {put : Parts → Parts} {text : List ℕ} {forms : List Form} {depth : ℕ} (b : ℕ) → IsTrue (is_space b) → Puts put text forms depth
    → Puts (λ behind. Before (Blank b) (put behind)) (b ∷ text) forms depth
puts_blank b is h = record {
  bytes = λ behind. ap (λ bytes. b ∷ bytes) (h.bytes behind);
  spelt = h.spelt;
  deep = λ behind n here rest. max-le (omega arith) (h.deep behind n here rest);
  laid = λ behind apart laid. (is, tt, h.laid behind apart laid);
}

pub puts_brackets : {put : Parts → Parts} {text : List ℕ} {forms : List Form} {depth : ℕ} → Puts put text forms depth
    → Puts (bracketed (put Last)) (40 ∷ (text ++ 41 ∷ [])) (group 0 forms ∷ []) (1 + depth)
puts_brackets {put} {text} {forms} {depth} h = record {
  bytes = λ behind. ap (λ bytes. 40 ∷ (bytes ++ 41 ∷ []) ++ parts_bytes behind) (h.bytes Last ∙ append-nil text);
  spelt = λ behind. ap (λ fs. group 0 fs ∷ parts_forms behind) (h.spelt Last ∙ append-nil forms);
  deep = λ behind n here rest.
      let inside = h.deep Last depth (omega arith) (omega arith) in
      max-le (omega arith) rest;
  laid = λ behind apart laid. (h.laid Last tt tt, tt, laid);
}

-- one behind the other
pub puts_both : {put next : Parts → Parts} {text more : List ℕ} {forms others : List Form} {depth : ℕ} → Puts put text forms depth → Puts next more others depth → BeginsApart next
    → Puts (λ behind. put (next behind)) (text ++ more) (forms ++ others) depth
puts_both {put} {next} {text} {more} {forms} {others} h k apart = record {
  bytes = λ behind. h.bytes (next behind) ∙ ap (λ bytes. text ++ bytes) (k.bytes behind) ∙ sym (append_assoc text more (parts_bytes behind));
  spelt = λ behind. h.spelt (next behind) ∙ ap (λ fs. forms ++ fs) (k.spelt behind) ∙ sym (append_assoc forms others (parts_forms behind));
  deep = λ behind n here rest. h.deep (next behind) n here (k.deep behind n here rest);
  laid = λ behind begins laid. h.laid (next behind) (apart behind begins) (k.laid behind begins laid);
}

pub puts_nothing : (depth : ℕ) → Puts (λ behind. behind) [] [] depth
puts_nothing depth = record {
  bytes = λ behind. refl;
  spelt = λ behind. refl;
  deep = λ behind n here rest. rest;
  laid = λ behind apart laid. laid;
}

-- of another text, of other forms that are the same, and of a greater depth
pub puts_text : {put : Parts → Parts} {text : List ℕ} {forms : List Form} {depth : ℕ} (more : List ℕ) → text ≡ more → Puts put text forms depth → Puts put more forms depth
puts_text {put} {text} {forms} {depth} more same h = subst (λ bytes. Puts put bytes forms depth) same h

pub puts_forms : {put : Parts → Parts} {text : List ℕ} {forms : List Form} {depth : ℕ} (others : List Form) → forms ≡ others → Puts put text forms depth → Puts put text others depth
puts_forms {put} {text} {forms} {depth} others same h = subst (λ fs. Puts put text fs depth) same h

pub puts_within : {put : Parts → Parts} {text : List ℕ} {forms : List Form} {depth : ℕ} (most : ℕ) → depth ≤ most → Puts put text forms depth → Puts put text forms most
puts_within most less h = record {
  bytes = h.bytes;
  spelt = h.spelt;
  deep = λ behind n here rest. h.deep behind n (omega arith) rest;
  laid = h.laid;
}

-- brackets at the end of a line
pub puts_bracket_line : {put : Parts → Parts} {text : List ℕ} {forms : List Form} {depth : ℕ} → Puts put text forms depth
    → Puts (λ behind. bracketed (put Last) (line_end behind)) (40 ∷ (text ++ 41 ∷ 10 ∷ [])) (group 0 forms ∷ []) (1 + depth)
puts_bracket_line {put} {text} {forms} {depth} h =
    puts_text (40 ∷ (text ++ 41 ∷ 10 ∷ [])) (ap (λ bytes. 40 ∷ bytes) (append_assoc text (41 ∷ []) (10 ∷ [])))
    (puts_both (puts_brackets h) (puts_blank 10 refl (puts_nothing (1 + depth))) (λ behind begins. tt))

-- items of which each puts its parts before others
module _ {X : Type 0} (put : X → Parts → Parts) (text : X → List ℕ) (forms : X → List Form) (depth : ℕ) (P : X → Type 0)
    (each : (x : X) → P x → Puts (put x) (text x) (forms x) depth) where
  pub each_apart : ((x : X) → BeginsApart (put x)) → (items : List X) → BeginsApart (each_parts put items)
  each_apart apart [] behind begins = begins
  each_apart apart (item ∷ items) behind begins = apart item (each_parts put items behind) (each_apart apart items behind begins)

  pub puts_each : ((x : X) → BeginsApart (put x)) → (items : List X) → All P items → Puts (each_parts put items) (flat_map text items) (flat_map forms items) depth
  puts_each apart [] all = puts_nothing depth
  puts_each apart (item ∷ items) all =
      puts_both (each item (All-head P item items all)) (puts_each apart items (All-tail P item items all)) (each_apart apart items)

spaced_is : {X : Type 0} (text : X → List ℕ) (items : List X) → flat_map (λ x. 32 ∷ text x) items ≡ spaced (map text items)
spaced_is text [] = refl
spaced_is text (item ∷ items) = ap (λ bytes. 32 ∷ (text item ++ bytes)) (spaced_is text items)

pub spaced_apart : {X : Type 0} (put : X → Parts → Parts) (items : List X) → BeginsApart (spaced_parts put items)
spaced_apart put [] behind begins = begins
spaced_apart put (item ∷ items) behind begins = tt

module _ {X : Type 0} (put : X → Parts → Parts) (text : X → List ℕ) (forms : X → List Form) (depth : ℕ) (P : X → Type 0)
    (each : (x : X) → P x → Puts (put x) (text x) (forms x) depth) where
  pub puts_spaced : (items : List X) → All P items → Puts (spaced_parts put items) (spaced (map text items)) (flat_map forms items) depth
  puts_spaced items all =
      puts_text (spaced (map text items)) (spaced_is text items)
      (puts_each (λ x behind. space (put x behind)) (λ x. 32 ∷ text x) forms depth P (λ x is. puts_blank 32 refl (each x is)) (λ x behind begins. tt) items all)

  pub puts_separated : (items : List X) → All P items → Puts (separated_parts put items) (separated (map text items)) (flat_map forms items) depth
  puts_separated [] all = puts_nothing depth
  puts_separated (item ∷ items) all =
      puts_both (each item (All-head P item items all)) (puts_spaced items (All-tail P item items all)) (spaced_apart put items)

  -- the line of a section
  pub puts_line : (key : List ℕ) → IsWritable key → (item : X) (items : List X) → All P (item ∷ items)
      → Puts (section_parts key put (item ∷ items)) (section_text key (map text (item ∷ items))) (group 0 (word key ∷ flat_map forms (item ∷ items)) ∷ []) (1 + depth)
  puts_line key is item items all =
      puts_bracket_line
      (puts_both (puts_within depth (omega arith) (puts_word key is)) (puts_spaced (item ∷ items) all) (spaced_apart put (item ∷ items)))
