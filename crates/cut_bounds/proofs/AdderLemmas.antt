-- The actions by the atoms that they add: how they are filed.
use Rattle.std.proofs.Common.{◌≡◌, ℕ, ◌+◌, ◌≤◌, true, false, List, [], length, sym, ◌∙◌, ap, subst, inl, inr, arith, Some}
use Rattle.std.specs.Prelude.{slice_get, Contains}
use Rattle.std.specs.Option.{option_map_or}
use Rattle.std.proofs.lemmas.Bool.{cases_eq, false≢true}
use Rattle.std.proofs.lemmas.Option.{slice_get_within}
use Rattle.grd_base.specs.declared.ids.ActionId.{ActionId}
use Rattle.strips_model.specs.Values.{GroundAction, PlainTask}
use Rattle.strips_model.specs.Plans.{set_of}
use Rattle.strips_model.specs.Index.{listed}
use Rattle.level_bounds.specs.Waves.{is_usable}
use Rattle.level_bounds.proofs.FilingLemmas.{AreListed, usable_parts}
use Rattle.cut_bounds.specs.CutFloors.{AreAdders, adds}

module _ (t : PlainTask) (removed : List ActionId) where
  -- before the first action
  pub adders_none : (lists : List (List ActionId)) → length lists ≡ t.atoms → ((n : ℕ) → listed lists n ≡ []) → AreAdders t removed 0 lists
  adders_none lists long empty = record {
    atoms = long;
    found = λ n a. (
      λ has. let there = subst (λ (l : List ActionId). Contains l a) (empty n) has in absurd (omega (arith, there.1)),
      λ h. absurd (omega (arith, h.0)),
    );
  }

  -- behind the last
  pub adders_all : (i : ℕ) (lists : List (List ActionId)) → length t.actions ≤ i → AreAdders t removed i lists → AreAdders t removed (length t.actions) lists
  adders_all i lists past are = record {
    atoms = are.atoms;
    found = λ n a. (
      λ has. let h = (are.found n a).0 has in let (act, at, kept, free) = usable_parts t removed a h.1 in (slice_get_within t.actions a.0 act at, h.1, h.2),
      λ h. (are.found n a).1 (omega (arith, h.0, past), h.1, h.2),
    );
  }

  module _ (i : ℕ) (lists : List (List ActionId)) (so_far : AreAdders t removed i lists) where
    -- an action that may not be used
    pub adders_out : is_usable t removed (record { 0 = i }) ≡ false → AreAdders t removed (i + 1) lists
    adders_out out = record {
      atoms = so_far.atoms;
      found = λ n a. (
        λ has. let h = (so_far.found n a).0 has in (omega (arith, h.0), h.1, h.2),
        λ h. elim (cases_eq a.0 i) as (λ _. Contains (listed lists n) a) [
          | inl same ↦ absurd (false≢true (sym out ∙ ap (λ k. is_usable t removed (record { 0 = k })) (sym same) ∙ h.1))
          | inr other ↦ (so_far.found n a).1 (omega (arith, h.0), h.1, h.2)
        ],
      );
    }

    -- an action that is filed
    pub adders_in : (act : GroundAction) → slice_get t.actions i ≡ Some act → is_usable t removed (record { 0 = i }) ≡ true → (more : List (List ActionId)) → length more ≡ length lists
        → AreListed lists (record { 0 = i }) (set_of act.add) more → AreAdders t removed (i + 1) more
    adders_in act at usable more long filed = record {
      atoms = long ∙ so_far.atoms;
      found = λ n a. (
        λ has. elim ((filed n a).0 has) [
          | inl old ↦ let h = (so_far.found n a).0 old in (omega (arith, h.0), h.1, h.2)
          | inr (is, adding) ↦
              let number : a.0 ≡ i = ap (λ (b : ActionId). b.0) is in
              let adds_it : adds t a n ≡ true = ap (λ k. option_map_or (λ (b : GroundAction). set_of b.add n) (slice_get t.actions k) false) number
              ∙ ap (λ o. option_map_or (λ (b : GroundAction). set_of b.add n) o false) at ∙ adding in
              (omega (arith, number), ap (is_usable t removed) is ∙ usable, adds_it)
        ],
        λ h. elim (cases_eq a.0 i) as (λ _. Contains (listed more n) a) [
          | inl same ↦
              let is : a ≡ record { 0 = i } = ap (λ k. record { 0 = k }) same in
              let adding : set_of act.add n ≡ true = ap (λ o. option_map_or (λ (b : GroundAction). set_of b.add n) o false) (sym at)
              ∙ ap (λ k. option_map_or (λ (b : GroundAction). set_of b.add n) (slice_get t.actions k) false) (sym same) ∙ h.2 in
              (filed n a).1 (inr (is, adding))
          | inr other ↦ (filed n a).1 (inl ((so_far.found n a).1 (omega (arith, h.0), h.1, h.2)))
        ],
      );
    }
