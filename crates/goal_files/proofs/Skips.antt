-- Lines that are skipped.
use Rattle.std.proofs.Common.{◌≡◌, ℕ, ◌+◌, Bool, true, false, cond, List, [], ◌∷◌, drop, refl, sym, ap, ◌∙◌, one-add, Option, Some, None}
use Rattle.std.specs.Prelude.{◌==◌}
use Rattle.std.specs.List.{prefix_len, slice_get}
use Rattle.goal_files.specs.Lines.{is_blank, is_skipped}
use Rattle.goal_files.specs.Reading.{past_blanks}

-- whether a line is skipped, by what stands behind its blanks
abbrev is_skipped_at : List ℕ → Bool
is_skipped_at [] = true
is_skipped_at (b ∷ line) = b == 59

is_skipped_by : (line : List ℕ) → is_skipped line ≡ is_skipped_at (past_blanks line)
is_skipped_by [] = refl
is_skipped_by (b ∷ line) = by_test (is_blank b) (is_skipped_by line)
  where
    by_test : (v : Bool) → is_skipped line ≡ is_skipped_at (past_blanks line) → cond v (is_skipped line) (b == 59) ≡ is_skipped_at (drop (cond v (1 + prefix_len is_blank line) 0) (b ∷ line))
    by_test true more = rw one-add more
    by_test false more = refl

skipped_first : (rest : List ℕ) (b : ℕ) → Some b ≡ slice_get rest 0 → (b == 59) ≡ is_skipped_at rest
skipped_first [] b e = cc
skipped_first (d ∷ rest) b e = let same : b ≡ d = cc in ap (λ x. x == 59) same

skipped_none : (rest : List ℕ) → ◌≡◌ {A = Option ℕ} None (slice_get rest 0) → true ≡ is_skipped_at rest
skipped_none [] e = refl
skipped_none (b ∷ rest) e = cc

pub is_skipped-first : (line rest : List ℕ) (b : ℕ) → rest ≡ past_blanks line → Some b ≡ slice_get rest 0 → (b == 59) ≡ is_skipped line
is_skipped-first line rest b is e = skipped_first rest b e ∙ ap is_skipped_at is ∙ sym (is_skipped_by line)

pub is_skipped-none : (line rest : List ℕ) → rest ≡ past_blanks line → ◌≡◌ {A = Option ℕ} None (slice_get rest 0) → true ≡ is_skipped line
is_skipped-none line rest is e = skipped_none rest e ∙ ap is_skipped_at is ∙ sym (is_skipped_by line)
