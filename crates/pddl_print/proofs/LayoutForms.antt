-- A text that is laid out has the form of its parts.
use Rattle.std.proofs.Common.{◌≡◌, ℕ, ◌+◌, ◌<◌, ◌^◌, List, [], ◌∷◌, ◌++◌, length, map, refl, sym, ap, ◌∙◌, arith, length-append}
use Rattle.std.specs.Prelude.{IsTrue}
use Rattle.std.specs.List.{AllByRecursion}
use Rattle.pddl_lexer.specs.Pieces.{Space, Bracket, is_space}
use Rattle.pddl_lexer.specs.Tokens.{tokens_from}
use Rattle.pddl_lexer.specs.Trees.{Opened, Closed, mark_of, join, marks_at, IsTreeOf, depth_in}
use Rattle.pddl_lexer.proofs.Depths.{one_list_of_tree}
use Rattle.pddl_reader.specs.Forms.{Form, group, form_of}
use Rattle.pddl_reader.specs.Spelling.{IsFormOf}
use Rattle.pddl_print.specs.Layouts.{Parts, Bracketed, parts_bytes, parts_forms, parts_depth, AreLaid, unplaced_form}
use Rattle.pddl_print.proofs.LayoutTree.{list_of, marks_in-list_of, depth_in-list_of, unplaced-list_of}
use Rattle.pddl_print.proofs.LayoutPieces.{part_pieces, text_cut, no_tokens}
use Rattle.pddl_print.proofs.LayoutItems.{build_parts}

-- A text of parts in brackets, with nothing but space behind them, has the form of the parts, whatever
-- their places. A list of a tree holds less than 2^63 items: a longer text may have no tree.
pub layout : (parts : Parts) (behind : List ℕ) → AreLaid parts → parts_depth parts < 64 → AllByRecursion (λ b. IsTrue (is_space b)) behind → length (40 ∷ (parts_bytes parts ++ 41 ∷ behind)) < 2 ^ 63
    → (f : Form) × IsFormOf (40 ∷ (parts_bytes parts ++ 41 ∷ behind)) f × (unplaced_form f ≡ group 0 (parts_forms parts))
layout parts behind laid shallow spaces few =
    let small : length (parts_bytes parts) < 2 ^ 63 = omega (arith, few, length-append (parts_bytes parts) (41 ∷ behind)) in
    let text : List ℕ = 40 ∷ (parts_bytes parts ++ 41 ∷ behind) in
    let pieces = part_pieces (Bracketed parts) (map Space behind) in
    let tokens = tokens_from 0 pieces in
    let h = build_parts parts text (40 ∷ []) (41 ∷ behind) laid refl small in
    let fits : length h.items < 2 ^ 63 = omega (arith, h.few, small) in
    let tree = list_of 0 h.items fits in
    let is_tree : IsTreeOf tokens tree =
    marks_in-list_of 0 h.items fits
    ∙ ap (λ ms. Opened 0 ∷ (join (map marks_at h.items) ++ Closed ∷ ms)) (sym (ap (map mark_of) (no_tokens behind (1 + length (parts_bytes parts) + 1))))
    ∙ ap (λ ms. Opened 0 ∷ ms) (sym (h.marks (Bracket 41 ∷ map Space behind))) in
    let low : depth_in tree ≡ 1 + parts_depth parts = depth_in-list_of 0 h.items fits ∙ ap (λ n. 1 + n) h.deep in
    let is_form : IsFormOf text (form_of text tree) = record {
      tokens = tokens;
      tree = tree;
      are_tokens = record { pieces = pieces; cut = text_cut parts behind laid spaces; give = refl };
      one_list = one_list_of_tree tokens tree is_tree (omega (arith, low, shallow));
      is_tree = is_tree;
      form = refl;
    } in
    (form_of text tree, is_form, unplaced-list_of text 0 h.items fits ∙ ap (group 0) h.same)
