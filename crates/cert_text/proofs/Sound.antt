-- Words that give a line are the words of a line.
use Rattle.std.proofs.Common.{◌≡◌, ℕ, true, false, List, [], ◌∷◌, ◌++◌, map, refl, sym, ap, ◌∙◌, arith, Option, Some, None, ◌⊎◌, inl, inr}
use Rattle.std.specs.Prelude.{codes}
use Rattle.std.specs.Option.{option_map}
use Rattle.std.specs.Str.{bytes_eq}
use Rattle.grd_base.specs.declared.limits.Bound.{Bound}
use Rattle.cert_text.specs.Lines.{Line, Plan, Table, Cuts, Set, Steps, End, Wcd, Prefix, Live, Design, Remove, Named, Tree, Branch, Leaf, LeafUse, Done, Word, Key, Number, words_of, word_text, numeral, bound_word, HasItsGoals}
use Rattle.cert_text.specs.Values.{keyword_text}
use Rattle.cert_text.specs.Reading.{read_words, keyword_of, line_of, all_numbers, next_word, next_number, ends_with, bound_of, row_of, wcd_line, wcd_of, pair_line, live_line, live_of, design_line, named_line, tree_line, branch_line, leaf_line, leaf_of, ◌>>=◌}
use Rattle.cert_text.specs.declared.keyword.Keyword.{Keyword}
use Rattle.cert_text.specs.declared.keyword.Keyword.TheVariants as key
use Rattle.cert_text.proofs.SoundSteps.{Text, Texts, word_or, chosen, map_some, same_word, end_step, number_then, key_then, number_or_then, up_to_then, all_then, all_map}
use Rattle.cert_text.proofs.SoundKinds.{Comes, text_of_option, head_comes, counts_comes, goal_comes, verdict_comes}
use Rattle.cert_text.proofs.KeywordLaws.{keyword_of_some}
use Rattle.cert_text.proofs.Capped.{cap, caps, cap_option, cap_bound, capped}

pair_comes : (n : ℕ) (ws : Texts) (r : Line) → pair_line (cap n) ws ≡ Some r → Comes (codes "wcd" ∷ numeral n ∷ ws) r
pair_comes n ws r e =
    let k = key_then (codes "goals") ws _ r e in
    let i = number_then k.0 _ r k.2 in
    let j = number_then i.1 _ r i.3 in
    let z = end_step j.1 _ r j.3 in
    record {
      line = Wcd (Some (n, i.0, j.0));
      words_are = ap (λ t. codes "wcd" ∷ numeral n ∷ t) (k.1 ∙ ap (λ t. codes "goals" ∷ t) (i.2 ∙ ap (λ t. numeral i.0 ∷ t) (j.2 ∙ ap (λ t. numeral j.0 ∷ t) z.0)));
      has_goals = tt;
      is = z.1;
    }

wcd_comes : (ws : Texts) (r : Line) → wcd_line ws ≡ Some r → Comes (codes "wcd" ∷ ws) r
wcd_comes ws r e = let c = number_or_then (codes "none") ws wcd_of r e in by_number c.0 c.1 c.2 c.3
  where
    by_number : (m : Option ℕ) (rest : Texts) → ws ≡ word_or (codes "none") m ∷ rest → wcd_of (cap_option m, rest) ≡ Some r → Comes (codes "wcd" ∷ ws) r
    by_number None rest w h =
        let z = end_step rest (Wcd None) r h in
        record { line = Wcd None; words_are = ap (λ t. codes "wcd" ∷ t) (w ∙ ap (λ t. codes "none" ∷ t) z.0); has_goals = tt; is = z.1 }
    by_number (Some n) rest w h =
        let found = pair_comes n rest r h in
        record { line = found.line; words_are = ap (λ t. codes "wcd" ∷ t) w ∙ found.words_are; has_goals = found.has_goals; is = found.is }

text_of_bound : (m : Option ℕ) → word_or (codes "never") m ≡ word_text (bound_word (bound_of m))
text_of_bound None = refl
text_of_bound (Some n) = refl

cap_of_bound : (m : Option ℕ) → bound_of (cap_option m) ≡ cap_bound (bound_of m)
cap_of_bound None = refl
cap_of_bound (Some n) = refl

-- the words of a row
row_comes : (ws : Texts) (x : Bound × List ℕ) → row_of ws ≡ Some x
    → (bound : Bound) × (state : List ℕ) × (ws ≡ word_text (bound_word bound) ∷ codes "state" ∷ map word_text (map Number state)) × (x.0 ≡ cap_bound bound) × (x.1 ≡ caps state)
row_comes ws x e =
    let b = number_or_then (codes "never") ws _ x e in
    let k = key_then (codes "state") b.1 _ x b.3 in
    let s = all_map k.0 _ x k.2 in (
      bound_of b.0,
      s.0,
      b.2 ∙ (λ i. text_of_bound b.0 i ∷ (k.1 ∙ ap (λ t. codes "state" ∷ t) s.1) i),
      ap (λ y. y.0) s.2 ∙ cap_of_bound b.0,
      ap (λ y. y.1) s.2,
    )

cuts_comes : (ws : Texts) (r : Line) → option_map (λ row. Cuts row.0 row.1) (row_of ws) ≡ Some r → Comes (codes "cuts" ∷ ws) r
cuts_comes ws r e =
    let x = map_some (row_of ws) (λ row. Cuts row.0 row.1) r e in
    let row = row_comes ws x.0 x.1 in
    record { line = Cuts row.0 row.1; words_are = ap (λ t. codes "cuts" ∷ t) row.2; has_goals = tt; is = x.2 ∙ (λ i. Cuts (row.3 i) (row.4 i)) }

steps_comes : (ws : Texts) (r : Line) → option_map (λ row. Steps row.0 row.1) (row_of ws) ≡ Some r → Comes (codes "steps" ∷ ws) r
steps_comes ws r e =
    let x = map_some (row_of ws) (λ row. Steps row.0 row.1) r e in
    let row = row_comes ws x.0 x.1 in
    record { line = Steps row.0 row.1; words_are = ap (λ t. codes "steps" ∷ t) row.2; has_goals = tt; is = x.2 ∙ (λ i. Steps (row.3 i) (row.4 i)) }

live_comes : (ws : Texts) (r : Line) → live_line ws ≡ Some r → Comes (codes "live" ∷ ws) r
live_comes ws r e =
    let d = number_then ws _ r e in
    let k = key_then (codes "goals") d.1 _ r d.3 in
    let g = up_to_then (codes "state") k.0 _ r k.2 in
    let s = all_then g.1 _ r g.3 in
    by_goals d.0 g.0 s.0
    (d.2 ∙ ap (λ t. numeral d.0 ∷ t) (k.1 ∙ ap (λ t. codes "goals" ∷ t) (g.2 ∙ ap (λ t. map word_text (map Number g.0) ++ codes "state" ∷ t) s.1)))
    s.2
  where
    joined : (gs : List ℕ) (w : Word) (more : List Word) → map word_text (map Number gs) ++ word_text w ∷ map word_text more ≡ map word_text (map Number gs ++ w ∷ more)
    joined [] w more = refl
    joined (g ∷ gs) w more = ap (λ t. numeral g ∷ t) (joined gs w more)

    by_goals : (d : ℕ) (gs state : List ℕ) → ws ≡ numeral d ∷ codes "goals" ∷ (map word_text (map Number gs) ++ codes "state" ∷ map word_text (map Number state))
        → live_of (cap d) (caps gs) (caps state) ≡ Some r → Comes (codes "live" ∷ ws) r
    by_goals d [] state w h = absurd cc
    by_goals d (g ∷ gs) state w h =
        record {
          line = Live d (g ∷ gs) state;
          words_are = ap (λ t. codes "live" ∷ t) (w ∙ ap (λ t. numeral d ∷ codes "goals" ∷ t) (joined (g ∷ gs) (Key (codes "state")) (map Number state)));
          has_goals = omega arith;
          is = cc;
        }

design_comes : (ws : Texts) (r : Line) → design_line ws ≡ Some r → Comes (codes "design" ∷ ws) r
design_comes ws r e =
    let m = number_then ws _ r e in
    let k = key_then (codes "wcd") m.1 _ r m.3 in
    let w = number_or_then (codes "none") k.0 _ r k.2 in
    let z = end_step w.1 _ r w.3 in
    record {
      line = Design m.0 w.0;
      words_are = ap (λ t. codes "design" ∷ t) (m.2 ∙ ap (λ t. numeral m.0 ∷ t) (k.1 ∙ ap (λ t. codes "wcd" ∷ t) (w.2 ∙ (λ i. text_of_option w.0 i ∷ z.0 i))));
      has_goals = tt;
      is = z.1;
    }

named_comes : (ws : Texts) (r : Line) → named_line ws ≡ Some r → Comes (codes "named" ∷ ws) r
named_comes ws r e =
    let n = number_then ws _ r e in
    let k = key_then (codes "goal") n.1 _ r n.3 in
    let g = number_then k.0 _ r k.2 in
    let u = key_then (codes "without") g.1 _ r g.3 in
    let s = all_map u.0 _ r u.2 in
    record {
      line = Named n.0 g.0 s.0;
      words_are = ap (λ t. codes "named" ∷ t) (n.2 ∙ ap (λ t. numeral n.0 ∷ t) (k.1 ∙ ap (λ t. codes "goal" ∷ t) (g.2 ∙ ap (λ t. numeral g.0 ∷ t) (u.1 ∙ ap (λ t. codes "without" ∷ t) s.1))));
      has_goals = tt;
      is = s.2;
    }

tree_comes : (ws : Texts) (r : Line) → tree_line ws ≡ Some r → Comes (codes "tree" ∷ ws) r
tree_comes ws r e =
    let m = number_then ws _ r e in
    let t = number_then m.1 _ r m.3 in
    let z = end_step t.1 _ r t.3 in
    record { line = Tree m.0 t.0; words_are = ap (λ v. codes "tree" ∷ v) (m.2 ∙ ap (λ v. numeral m.0 ∷ v) (t.2 ∙ ap (λ v. numeral t.0 ∷ v) z.0)); has_goals = tt; is = z.1 }

branch_comes : (ws : Texts) (r : Line) → branch_line ws ≡ Some r → Comes (codes "branch" ∷ ws) r
branch_comes ws r e =
    let i = number_then ws _ r e in
    let j = number_then i.1 _ r i.3 in
    let z = end_step j.1 _ r j.3 in
    record { line = Branch i.0 j.0; words_are = ap (λ v. codes "branch" ∷ v) (i.2 ∙ ap (λ v. numeral i.0 ∷ v) (j.2 ∙ ap (λ v. numeral j.0 ∷ v) z.0)); has_goals = tt; is = z.1 }

leaf_comes : (ws : Texts) (r : Line) → leaf_line ws ≡ Some r → Comes (codes "leaf" ∷ ws) r
leaf_comes ws r e = let g = number_then ws _ r e in by_rest g.0 g.1 g.2 g.3
  where
    by_use : (g : ℕ) (w : Text) (rest : Texts) → ws ≡ numeral g ∷ w ∷ rest
        → (((bytes_eq w (codes "use") ≡ true) × ((next_number rest >>= λ table. ends_with table.1 (LeafUse (cap g) table.0)) ≡ Some r)) ⊎ ((bytes_eq w (codes "use") ≡ false) × (None ≡ Some r)))
        → Comes (codes "leaf" ∷ ws) r
    by_use g w rest whole (inl h) =
        let same = same_word w (codes "use") h.0 in
        let n = number_then rest _ r h.1 in
        let z = end_step n.1 _ r n.3 in
        record {
          line = LeafUse g n.0;
          words_are = ap (λ v. codes "leaf" ∷ v) (whole ∙ (λ i. numeral g ∷ same i ∷ (n.2 ∙ ap (λ v. numeral n.0 ∷ v) z.0) i));
          has_goals = tt;
          is = z.1;
        }
    by_use g w rest whole (inr h) = absurd cc

    by_rest : (g : ℕ) (rest : Texts) → ws ≡ numeral g ∷ rest → leaf_of (cap g) (next_word rest) ≡ Some r → Comes (codes "leaf" ∷ ws) r
    by_rest g [] w h = record { line = Leaf g; words_are = ap (λ v. codes "leaf" ∷ v) w; has_goals = tt; is = cc }
    by_rest g (v ∷ rest) w h =
        by_use g v rest w (chosen (bytes_eq v (codes "use")) (next_number rest >>= λ table. ends_with table.1 (LeafUse (cap g) table.0)) None (Some r) h)

bare_comes : (text : Text) (l : Line) → text ∷ [] ≡ map word_text (words_of l) → HasItsGoals l → capped l ≡ l
    → (ws : Texts) (r : Line) → ends_with ws l ≡ Some r → Comes (text ∷ ws) r
bare_comes text l w goals same ws r e =
    let z = end_step ws l r e in
    record { line = l; words_are = ap (λ v. text ∷ v) z.0 ∙ w; has_goals = goals; is = z.1 ∙ sym same }

list_comes : (text : Text) (of : List ℕ → Line) → ((ns : List ℕ) → text ∷ map word_text (map Number ns) ≡ map word_text (words_of (of ns)))
    → ((ns : List ℕ) → HasItsGoals (of ns)) → ((ns : List ℕ) → capped (of ns) ≡ of (caps ns))
    → (ws : Texts) (r : Line) → option_map of (all_numbers ws) ≡ Some r → Comes (text ∷ ws) r
list_comes text of w goals same ws r e =
    let s = all_map ws of r e in
    record { line = of s.0; words_are = ap (λ v. text ∷ v) s.1 ∙ w s.0; has_goals = goals s.0; is = s.2 ∙ sym (same s.0) }

keyword_comes : (keyword : Keyword) (ws : Texts) (r : Line) → line_of keyword ws ≡ Some r → Comes (keyword_text keyword ∷ ws) r
keyword_comes key.Grd ws r e = head_comes ws r e
keyword_comes key.Task ws r e = counts_comes ws r e
keyword_comes key.Goal ws r e = goal_comes ws r e
keyword_comes key.Plan ws r e = list_comes (codes "plan") Plan (λ ns. refl) (λ ns. tt) (λ ns. refl) ws r e
keyword_comes key.Table ws r e = bare_comes (codes "table") Table refl tt refl ws r e
keyword_comes key.Cuts ws r e = cuts_comes ws r e
keyword_comes key.Set ws r e = list_comes (codes "set") Set (λ ns. refl) (λ ns. tt) (λ ns. refl) ws r e
keyword_comes key.Steps ws r e = steps_comes ws r e
keyword_comes key.End ws r e = bare_comes (codes "end") End refl tt refl ws r e
keyword_comes key.Verdict ws r e = verdict_comes ws r e
keyword_comes key.Wcd ws r e = wcd_comes ws r e
keyword_comes key.Prefix ws r e = list_comes (codes "prefix") Prefix (λ ns. refl) (λ ns. tt) (λ ns. refl) ws r e
keyword_comes key.Live ws r e = live_comes ws r e
keyword_comes key.Design ws r e = design_comes ws r e
keyword_comes key.Remove ws r e = list_comes (codes "remove") Remove (λ ns. refl) (λ ns. tt) (λ ns. refl) ws r e
keyword_comes key.Named ws r e = named_comes ws r e
keyword_comes key.Tree ws r e = tree_comes ws r e
keyword_comes key.Branch ws r e = branch_comes ws r e
keyword_comes key.Leaf ws r e = leaf_comes ws r e
keyword_comes key.Done ws r e = bare_comes (codes "done") Done refl tt refl ws r e

pub words_come : (ws : Texts) (r : Line) → read_words ws ≡ Some r → Comes ws r
words_come [] r e = absurd cc
words_come (w ∷ ws) r e = by_keyword (keyword_of w) refl e
  where
    by_keyword : (found : Option Keyword) → keyword_of w ≡ found → (found >>= λ keyword. line_of keyword ws) ≡ Some r → Comes (w ∷ ws) r
    by_keyword None h f = absurd cc
    by_keyword (Some keyword) h f =
        let same = keyword_of_some w keyword h in
        let found = keyword_comes keyword ws r f in
        record { line = found.line; words_are = ap (λ v. v ∷ ws) same ∙ found.words_are; has_goals = found.has_goals; is = found.is }
