-- The items of a text that is laid out: their tokens, their forms and their depth.
use Rattle.std.proofs.Common.{◌≡◌, ℕ, ◌+◌, ◌-◌, ◌<◌, ◌≤◌, ◌^◌, List, [], ◌∷◌, ◌++◌, length, map, take, drop, refl, sym, ap, ◌∙◌, subst, arith, append_assoc, append-nil, length-append}
use Rattle.std.specs.Prelude.{max}
use Rattle.std.specs.Str.{str_to_ascii_lowercase}
use Rattle.std.proofs.Math.Seq.{take-append_seam, drop-append_seam}
use Rattle.std.proofs.lemmas.List.{map-append}
use Rattle.pddl_lexer.specs.declared.token.Token.{Token}
use Rattle.pddl_lexer.specs.declared.token.TokenKind.TheVariants.{Word as WordKind}
use Rattle.pddl_lexer.specs.declared.trees.Item.{Item}
use Rattle.pddl_lexer.specs.declared.trees.Item.TheVariants.{List as ListItem, Word as WordItem}
use Rattle.pddl_lexer.specs.Pieces.{Piece, Bracket}
use Rattle.pddl_lexer.specs.Tokens.{tokens_from}
use Rattle.pddl_lexer.specs.Trees.{Opened, Closed, mark_of, join, marks_at, deepest, depth_at}
use Rattle.pddl_reader.specs.Forms.{Form, Leaf, group, form_at}
use Rattle.pddl_reader.specs.Items.{forms_at}
use Rattle.pddl_reader.proofs.ItemLemmas.{marks_at-list, form_at-word, form_at-list}
use Rattle.pddl_print.specs.Layouts.{Part, Parts, Blank, Written, Bracketed, Last, Before, part_bytes, parts_bytes, part_forms, parts_forms, part_depth, parts_depth, IsWritable, IsLaid, AreLaid, unplaced_form}
use Rattle.pddl_print.proofs.LayoutTree.{list_of, marks_at-word, depth_at-word, depth_at-list, depth_in-list_of, marks_in-list_of, join-append, deepest-append, unplaced-list_of}
use Rattle.pddl_print.proofs.LayoutPieces.{part_pieces, parts_pieces, bracketed_bytes}

-- a word between what stands before and behind it
pub word_between : (front bytes back : List ℕ) → take (length front + length bytes - length front) (drop (length front) (front ++ (bytes ++ back))) ≡ bytes
word_between front bytes back =
    let len : length front + length bytes - length front ≡ length bytes = omega arith in
    ap (λ n. take n (drop (length front) (front ++ (bytes ++ back)))) len ∙ ap (take (length bytes)) (drop-append_seam front (bytes ++ back)) ∙ take-append_seam bytes back

-- the items have the tokens of the pieces that begin at the place, these forms, and this depth
pub record AreBuilt (text : List ℕ) (at : ℕ) (pieces : List Piece → List Piece) (bytes : List ℕ) (forms : List Form) (height : ℕ) : Type 0 where
  pub items : List Item
  pub marks : (more : List Piece) → map mark_of (tokens_from at (pieces more)) ≡ join (map marks_at items) ++ map mark_of (tokens_from (at + length bytes) more)
  pub same : map unplaced_form (forms_at text items) ≡ forms
  pub deep : deepest (map depth_at items) ≡ height
  pub few : length items ≤ length bytes

abbrev IsBuilt : List ℕ → ℕ → Part → Type 0
IsBuilt text at part = AreBuilt text at (part_pieces part) (part_bytes part) (part_forms part) (part_depth part)

abbrev AllBuilt : List ℕ → ℕ → Parts → Type 0
AllBuilt text at parts = AreBuilt text at (parts_pieces parts) (parts_bytes parts) (parts_forms parts) (parts_depth parts)

built_blank : (text : List ℕ) (at b : ℕ) → IsBuilt text at (Blank b)
built_blank text at b = record { items = []; marks = λ more. refl; same = refl; deep = refl; few = omega arith }

built_word : (text front bytes back : List ℕ) → IsWritable bytes → front ++ (bytes ++ back) ≡ text → IsBuilt text (length front) (Written bytes)
built_word text front bytes back writable whole =
    let at = length front in
    let t : Token = record { kind = WordKind; from = at; to = at + length bytes } in
    let bytes_are : take (at + length bytes - at) (drop at text) ≡ bytes = ap (λ s. take (at + length bytes - at) (drop at s)) (sym whole) ∙ word_between front bytes back in
    record {
      items = WordItem t ∷ [];
      marks = λ more. ap (λ ms. join (ms ∷ []) ++ map mark_of (tokens_from (at + length bytes) more)) (sym (marks_at-word t));
      same = ap (λ f. unplaced_form f ∷ []) (form_at-word text t) ∙ ap (λ s. Leaf (record { text = s; at = 0 }) ∷ []) (ap str_to_ascii_lowercase bytes_are ∙ writable.folded);
      deep = ap (λ n. deepest (n ∷ [])) (depth_at-word t);
      few = omega (arith, writable.some);
    }

built_list : (text : List ℕ) (at : ℕ) (parts : Parts) → AllBuilt text (at + 1) parts → length (parts_bytes parts) < 2 ^ 63 → IsBuilt text at (Bracketed parts)
built_list text at parts h small =
    let fits : length h.items < 2 ^ 63 = omega (arith, h.few, small) in
    let l = list_of at h.items fits in
    let place : at + 1 + length (parts_bytes parts) + 1 ≡ at + length (part_bytes (Bracketed parts)) = omega (arith, length-append (parts_bytes parts) (41 ∷ [])) in
    record {
      items = ListItem l ∷ [];
      marks = λ more.
          let rest = map mark_of (tokens_from (at + 1 + length (parts_bytes parts) + 1) more) in
          ap (λ ms. Opened at ∷ ms) (h.marks (Bracket 41 ∷ more))
          ∙ ap (λ ms. Opened at ∷ ms) (sym (append_assoc (join (map marks_at h.items)) (Closed ∷ []) rest))
          ∙ ap (λ ms. ms ++ rest) (sym (append-nil (marks_at (ListItem l)) ∙ marks_at-list l ∙ marks_in-list_of at h.items fits))
          ∙ ap (λ n. join (map marks_at (ListItem l ∷ [])) ++ map mark_of (tokens_from n more)) place;
      same = ap (λ f. unplaced_form f ∷ []) (form_at-list text l) ∙ ap (λ f. f ∷ []) (unplaced-list_of text at h.items fits ∙ ap (group 0) h.same);
      deep = ap (λ n. deepest (n ∷ [])) (depth_at-list l ∙ depth_in-list_of at h.items fits ∙ ap (λ n. 1 + n) h.deep) ∙ max_zero (1 + parts_depth parts);
      few = omega (arith, length-append (parts_bytes parts) (41 ∷ []));
    }
  where
    max_zero : (n : ℕ) → max n 0 ≡ n
    max_zero n = omega arith

built_none : (text : List ℕ) (at : ℕ) → AllBuilt text at Last
built_none text at = record { items = []; marks = λ more. let e : at ≡ at + 0 = omega arith in ap (λ n. map mark_of (tokens_from n more)) e; same = refl; deep = refl; few = omega arith }

built_more : (text : List ℕ) (at : ℕ) (part : Part) (parts : Parts) → IsBuilt text at part → AllBuilt text (at + length (part_bytes part)) parts → AllBuilt text at (Before part parts)
built_more text at part parts h k =
    let place : at + length (part_bytes part) + length (parts_bytes parts) ≡ at + length (part_bytes part ++ parts_bytes parts) = omega (arith, length-append (part_bytes part) (parts_bytes parts)) in
    record {
      items = h.items ++ k.items;
      marks = λ more.
          let rest = map mark_of (tokens_from (at + length (part_bytes part) + length (parts_bytes parts)) more) in
          h.marks (parts_pieces parts more)
          ∙ ap (λ ms. join (map marks_at h.items) ++ ms) (k.marks more)
          ∙ sym (append_assoc (join (map marks_at h.items)) (join (map marks_at k.items)) rest)
          ∙ ap (λ ms. ms ++ rest) (sym (ap join (map-append marks_at h.items k.items) ∙ join-append (map marks_at h.items) (map marks_at k.items)))
          ∙ ap (λ n. join (map marks_at (h.items ++ k.items)) ++ map mark_of (tokens_from n more)) place;
      same = ap (map unplaced_form) (map-append (form_at text) h.items k.items) ∙ map-append unplaced_form (forms_at text h.items) (forms_at text k.items) ∙ cc (h.same, k.same);
      deep = ap deepest (map-append depth_at h.items k.items) ∙ deepest-append (map depth_at h.items) (map depth_at k.items) ∙ cc (h.deep, k.deep);
      few = omega (arith, h.few, k.few, length-append h.items k.items, length-append (part_bytes part) (parts_bytes parts));
    }

mutual
  build_part : (part : Part) (text front back : List ℕ) → IsLaid part → front ++ (part_bytes part ++ back) ≡ text → length (part_bytes part) < 2 ^ 63 → IsBuilt text (length front) part
  build_part (Blank b) text front back laid whole small = built_blank text (length front) b
  build_part (Written bytes) text front back laid whole small = built_word text front bytes back laid whole
  build_part (Bracketed parts) text front back laid whole small =
      let inner_small : length (parts_bytes parts) < 2 ^ 63 = omega (arith, small, length-append (parts_bytes parts) (41 ∷ [])) in
      let inner_whole : (front ++ 40 ∷ []) ++ (parts_bytes parts ++ 41 ∷ back) ≡ text =
      append_assoc front (40 ∷ []) (parts_bytes parts ++ 41 ∷ back) ∙ ap (λ s. front ++ s) (sym (bracketed_bytes parts back)) ∙ whole in
      let next : length (front ++ 40 ∷ []) ≡ length front + 1 = length-append front (40 ∷ []) in
      built_list text (length front) parts (subst (λ n. AllBuilt text n parts) next (build_parts parts text (front ++ 40 ∷ []) (41 ∷ back) laid inner_whole inner_small)) inner_small

  pub build_parts : (parts : Parts) (text front back : List ℕ) → AreLaid parts → front ++ (parts_bytes parts ++ back) ≡ text → length (parts_bytes parts) < 2 ^ 63 → AllBuilt text (length front) parts
  build_parts Last text front back laid whole small = built_none text (length front)
  build_parts (Before part parts) text front back laid whole small =
      let both = length-append (part_bytes part) (parts_bytes parts) in
      let first_whole : front ++ (part_bytes part ++ (parts_bytes parts ++ back)) ≡ text = ap (λ s. front ++ s) (sym (append_assoc (part_bytes part) (parts_bytes parts) back)) ∙ whole in
      let next : length (front ++ part_bytes part) ≡ length front + length (part_bytes part) = length-append front (part_bytes part) in
      built_more text (length front) part parts
      (build_part part text front (parts_bytes parts ++ back) laid.0 first_whole (omega (arith, small, both)))
      (subst (λ n. AllBuilt text n parts) next (build_parts parts text (front ++ part_bytes part) back laid.2 (append_assoc front (part_bytes part) (parts_bytes parts ++ back) ∙ first_whole) (omega (arith, small, both))))
