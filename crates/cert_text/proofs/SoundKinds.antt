-- Words that give a line of one of these kinds are the words of a line.
use Rattle.std.proofs.Common.{◌≡◌, ℕ, true, false, cond, List, ◌∷◌, map, refl, ap, ◌∙◌, Option, Some, None, ◌⊎◌, inl, inr}
use Rattle.std.specs.Prelude.{codes}
use Rattle.std.specs.Str.{bytes_eq}
use Rattle.cert_text.specs.Lines.{Line, Head, HeadTwo, Counts, GoalCost, Verdict, words_of, word_text, numeral, number_or_none, HasItsGoals}
use Rattle.cert_text.specs.Reading.{ends_with, head_line, counts_line, goal_line, verdict_line}
use Rattle.cert_text.proofs.SoundSteps.{Text, Texts, word_or, chosen, same_word, end_step, word_then, number_then, key_then, number_or_then}
use Rattle.cert_text.proofs.Capped.{cap, capped}

-- the words are those of a line, which is this line in memory
pub record Comes (ws : List (List ℕ)) (read : Line) : Type 0 where
  pub line : Line
  pub words_are : ws ≡ map word_text (words_of line)
  pub has_goals : HasItsGoals line
  pub is : read ≡ capped line

-- ---- the kinds

pub text_of_option : (m : Option ℕ) → word_or (codes "none") m ≡ word_text (number_or_none m)
text_of_option None = refl
text_of_option (Some n) = refl

pub head_comes : (ws : Texts) (r : Line) → head_line ws ≡ Some r → Comes (codes "grd" ∷ ws) r
head_comes ws r e =
    let k = key_then (codes "certificate") ws _ r e in
    let v = word_then k.0 _ r k.2 in
    by_version v.0 v.1 (k.1 ∙ ap (λ t. codes "certificate" ∷ t) v.2)
    (chosen (bytes_eq v.0 (codes "1")) (ends_with v.1 Head) (cond (bytes_eq v.0 (codes "2")) (ends_with v.1 HeadTwo) None) (Some r) v.3)
  where
    second : (version : Text) (rest : Texts) → ws ≡ codes "certificate" ∷ version ∷ rest
        → (((bytes_eq version (codes "2") ≡ true) × (ends_with rest HeadTwo ≡ Some r)) ⊎ ((bytes_eq version (codes "2") ≡ false) × (None ≡ Some r)))
        → Comes (codes "grd" ∷ ws) r
    second version rest w (inl h) =
        let same = same_word version (codes "2") h.0 in
        let z = end_step rest HeadTwo r h.1 in
        record { line = HeadTwo; words_are = ap (λ t. codes "grd" ∷ t) (w ∙ (λ i. codes "certificate" ∷ same i ∷ z.0 i)); has_goals = tt; is = z.1 }
    second version rest w (inr h) = absurd cc

    by_version : (version : Text) (rest : Texts) → ws ≡ codes "certificate" ∷ version ∷ rest
        → (((bytes_eq version (codes "1") ≡ true) × (ends_with rest Head ≡ Some r)) ⊎ ((bytes_eq version (codes "1") ≡ false) × (cond (bytes_eq version (codes "2")) (ends_with rest HeadTwo) None ≡ Some r)))
        → Comes (codes "grd" ∷ ws) r
    by_version version rest w (inl h) =
        let same = same_word version (codes "1") h.0 in
        let z = end_step rest Head r h.1 in
        record { line = Head; words_are = ap (λ t. codes "grd" ∷ t) (w ∙ (λ i. codes "certificate" ∷ same i ∷ z.0 i)); has_goals = tt; is = z.1 }
    by_version version rest w (inr h) =
        second version rest w (chosen (bytes_eq version (codes "2")) (ends_with rest HeadTwo) None (Some r) h.1)

pub counts_comes : (ws : Texts) (r : Line) → counts_line ws ≡ Some r → Comes (codes "task" ∷ ws) r
counts_comes ws r e =
    let a = number_then ws _ r e in
    let b = number_then a.1 _ r a.3 in
    let c = number_then b.1 _ r b.3 in
    let d = number_then c.1 _ r c.3 in
    let k = number_then d.1 _ r d.3 in
    let z = end_step k.1 _ r k.3 in
    record {
      line = Counts a.0 b.0 c.0 d.0 k.0;
      words_are = ap (λ t. codes "task" ∷ t) (a.2 ∙ ap (λ t. numeral a.0 ∷ t) (b.2 ∙ ap (λ t. numeral b.0 ∷ t) (c.2 ∙ ap (λ t. numeral c.0 ∷ t) (d.2 ∙ ap (λ t. numeral d.0 ∷ t) (k.2 ∙ ap (λ t. numeral k.0 ∷ t) z.0)))));
      has_goals = tt;
      is = z.1;
    }

pub goal_comes : (ws : Texts) (r : Line) → goal_line ws ≡ Some r → Comes (codes "goal" ∷ ws) r
goal_comes ws r e =
    let g = number_then ws _ r e in
    let k = key_then (codes "cost") g.1 _ r g.3 in
    let c = number_or_then (codes "none") k.0 _ r k.2 in
    let z = end_step c.1 _ r c.3 in
    record {
      line = GoalCost g.0 c.0;
      words_are = ap (λ t. codes "goal" ∷ t) (g.2 ∙ ap (λ t. numeral g.0 ∷ t) (k.1 ∙ ap (λ t. codes "cost" ∷ t) (c.2 ∙ (λ i. text_of_option c.0 i ∷ z.0 i))));
      has_goals = tt;
      is = z.1;
    }

pub verdict_comes : (ws : Texts) (r : Line) → verdict_line ws ≡ Some r → Comes (codes "verdict" ∷ ws) r
verdict_comes ws r e =
    let g = number_then ws _ r e in
    let v = word_then g.1 _ r g.3 in
    by_answer g.0 v.0 v.1 (g.2 ∙ ap (λ t. numeral g.0 ∷ t) v.2)
    (chosen (bytes_eq v.0 (codes "yes")) (ends_with v.1 (Verdict (cap g.0) true)) (cond (bytes_eq v.0 (codes "no")) (ends_with v.1 (Verdict (cap g.0) false)) None) (Some r) v.3)
  where
    second : (g : ℕ) (answer : Text) (rest : Texts) → ws ≡ numeral g ∷ answer ∷ rest
        → (((bytes_eq answer (codes "no") ≡ true) × (ends_with rest (Verdict (cap g) false) ≡ Some r)) ⊎ ((bytes_eq answer (codes "no") ≡ false) × (None ≡ Some r)))
        → Comes (codes "verdict" ∷ ws) r
    second g answer rest w (inl h) =
        let same = same_word answer (codes "no") h.0 in
        let z = end_step rest _ r h.1 in
        record { line = Verdict g false; words_are = ap (λ t. codes "verdict" ∷ t) (w ∙ (λ i. numeral g ∷ same i ∷ z.0 i)); has_goals = tt; is = z.1 }
    second g answer rest w (inr h) = absurd cc

    by_answer : (g : ℕ) (answer : Text) (rest : Texts) → ws ≡ numeral g ∷ answer ∷ rest
        → (((bytes_eq answer (codes "yes") ≡ true) × (ends_with rest (Verdict (cap g) true) ≡ Some r)) ⊎ ((bytes_eq answer (codes "yes") ≡ false) × (cond (bytes_eq answer (codes "no")) (ends_with rest (Verdict (cap g) false)) None ≡ Some r)))
        → Comes (codes "verdict" ∷ ws) r
    by_answer g answer rest w (inl h) =
        let same = same_word answer (codes "yes") h.0 in
        let z = end_step rest _ r h.1 in
        record { line = Verdict g true; words_are = ap (λ t. codes "verdict" ∷ t) (w ∙ (λ i. numeral g ∷ same i ∷ z.0 i)); has_goals = tt; is = z.1 }
    by_answer g answer rest w (inr h) =
        second g answer rest w (chosen (bytes_eq answer (codes "no")) (ends_with rest (Verdict (cap g) false)) None (Some r) h.1)
