-- The choices of a branch, as they are gathered.
use Rattle.std.proofs.Common.{◌≡◌, ℕ, ◌+◌, ◌<◌, ◌≤◌, true, false, cond, List, [], ◌∷◌, ◌++◌, length, drop, get_or, append_assoc, sym, ◌∙◌, ap}
use Rattle.std.proofs.lemmas.Bool.{lt-ltb, le-ltb}
use Rattle.std.proofs.lemmas.List.{drop_more, append-nil}
use Rattle.strips_model.specs.Values.{PlainWitness}
use Rattle.grd_base.specs.declared.ids.ActionId.{ActionId}
use Rattle.grd_base.specs.Rising.{has_id}
use Rattle.design_certificate.specs.Trees.{firsts_outside, choices}

-- the list, and behind it the firsts of the rest
abbrev pub seen_with : List ActionId → List ActionId → List ActionId
seen_with seen rest = seen ++ firsts_outside seen rest

module _ (seen plan more : List ActionId) (i : ℕ) (d : ActionId) (within : i < length plan) where
  -- an action that is there is passed over
  pub seen_pass : has_id seen (get_or plan i d) ≡ true → seen_with seen (drop (i + 1) plan ++ more) ≡ seen_with seen (drop i plan ++ more)
  seen_pass there =
      let a = get_or plan i d in
      let rest = drop (i + 1) plan ++ more in
      ap (λ c. seen ++ cond c (firsts_outside seen rest) (a ∷ firsts_outside (seen ++ a ∷ []) rest)) (sym there)
      ∙ ap (λ xs. seen_with seen (xs ++ more)) (sym (drop_more plan i d within))

  -- another is put last
  pub seen_push : has_id seen (get_or plan i d) ≡ false → seen_with (seen ++ get_or plan i d ∷ []) (drop (i + 1) plan ++ more) ≡ seen_with seen (drop i plan ++ more)
  seen_push fresh =
      let a = get_or plan i d in
      let rest = drop (i + 1) plan ++ more in
      append_assoc seen (a ∷ []) (firsts_outside (seen ++ a ∷ []) rest)
      ∙ ap (λ c. seen ++ cond c (firsts_outside seen rest) (a ∷ firsts_outside (seen ++ a ∷ []) rest)) (sym fresh)
      ∙ ap (λ xs. seen_with seen (xs ++ more)) (sym (drop_more plan i d within))

-- the whole list, where the plans were gone through and where as many actions are removed as may be
pub seen_all : (m : ℕ) (removed kept seen between : List ActionId) (w : PlainWitness) → length removed < m
    → ((more : List ActionId) → seen_with between more ≡ seen_with kept (w.plans.0 ++ more)) → ((more : List ActionId) → seen_with seen more ≡ seen_with between (w.plans.1 ++ more))
    → seen ≡ kept ++ choices m removed kept w
seen_all m removed kept seen between w few first second =
    sym (append-nil seen) ∙ second [] ∙ ap (λ xs. seen_with between xs) (append-nil w.plans.1) ∙ first w.plans.1
    ∙ ap (λ c. kept ++ cond c (firsts_outside kept (w.plans.0 ++ w.plans.1)) []) (sym (lt-ltb (length removed) m few))

pub seen_none : (m : ℕ) (removed kept : List ActionId) (w : PlainWitness) → m ≤ length removed → kept ≡ kept ++ choices m removed kept w
seen_none m removed kept w full = sym (append-nil kept) ∙ ap (λ c. kept ++ cond c (firsts_outside kept (w.plans.0 ++ w.plans.1)) []) (sym (le-ltb (length removed) m full))
