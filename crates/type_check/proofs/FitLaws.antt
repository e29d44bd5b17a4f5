-- What holds of some of the words of a list, or of all, by their texts.
use Rattle.std.proofs.Common.{◌≡◌, ℕ, ◌+◌, ◌<◌, ◌≤◌, ◌⊎◌, List, [], length, get_or, sym, ap, ◌∙◌, subst, inl, inr, arith}
use Rattle.std.specs.List.{All, Any}
use Rattle.std.proofs.lemmas.Bool.{cases_lt}
use Rattle.std.proofs.lemmas.List.{get_or-map, get_or_default, length-map}
use Rattle.pddl_reader.specs.Forms.{Word}
use Rattle.type_check.specs.Types.{texts}

module _ (P : List ℕ → Type 0) (words : List Word) where
  -- it holds of none of the first, or of each of them
  abbrev pub NoneBefore : ℕ → Type 0
  NoneBefore n = (k : ℕ) (d : Word) → k < n → P (get_or words k d).text → ⊥

  abbrev pub EachBefore : ℕ → Type 0
  EachBefore n = (k : ℕ) (d : Word) → k < n → P (get_or words k d).text

  text-at : (k : ℕ) (t : List ℕ) (d : Word) → k < length words → get_or (texts words) k t ≡ (get_or words k d).text
  text-at k t d less = get_or-map (λ (w : Word). w.text) words k d t less

  some : Word
  some = record { text = []; at = 0 }

  pub none_found : NoneBefore (length words) → Any P (texts words) → ⊥
  none_found none (k, t, less, is, h) =
      let shorter : k < length words = omega (arith, less, length-map words (λ (v : Word). v.text)) in
      none k some shorter (subst P (sym is ∙ text-at k t some shorter) h)

  pub each_found : EachBefore (length words) → All P (texts words)
  each_found each k t less =
      let shorter : k < length words = omega (arith, less, length-map words (λ (v : Word). v.text)) in
      subst P (sym (text-at k t some shorter)) (each k some shorter)

  pub all_at : (i : ℕ) (w : Word) → i < length words → w ≡ get_or words i w → All P (texts words) → P w.text
  all_at i w less is all =
      subst P (text-at i w.text w less ∙ ap (λ (v : Word). v.text) (sym is)) (all i w.text (omega (arith, less, length-map words (λ (v : Word). v.text))))

  pub not_each : (i : ℕ) (w : Word) → i < length words → w ≡ get_or words i w → (P w.text → ⊥) → All P (texts words) → ⊥
  not_each i w less is not all = not (all_at i w less is all)

  pub each_more : (i : ℕ) (w : Word) → i < length words → w ≡ get_or words i w → EachBefore i → P w.text → EachBefore (i + 1)
  each_more i w less is each here k d within = by (cases_lt k i)
    where
      by : (k < i) ⊎ (i ≤ k) → P (get_or words k d).text
      by (inl before) = each k d before
      by (inr now) =
          let same : i ≡ k = omega (arith, now, within) in
          subst P (ap (λ (v : Word). v.text) (is ∙ get_or_default words i w d less) ∙ ap (λ j. (get_or words j d).text) same) here
