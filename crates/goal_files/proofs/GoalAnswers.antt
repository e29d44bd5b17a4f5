-- The goals of a text over a typed domain and problem, and what is at fault in one that gives none.
use Rattle.std.proofs.Common.{◌≡◌, ℕ, ◌<◌, List, [], length, refl, sym, ap, ◌∙◌, subst, inl, inr, arith, Result, Err}
use Rattle.std.specs.Prelude.{◌⊎◌}
use Rattle.std.specs.Result.{IfOk, IsOkAnd, IfErr}
use Rattle.pddl_reader.specs.Sections.{Pairwise}
use Rattle.type_check.specs.Values.{PlainTyped, PlainGroundAtom}
use Rattle.type_check.specs.Typing.{IsTypedTask}
use Rattle.goal_files.specs.Goals.{HasNoAtoms, SpellsGoal, SpellsGoals, HasUnknownAtom, IsGoalFault}
use Rattle.goal_files.specs.Ground.{IsAtomOf, without_repeats}
use Rattle.goal_files.specs.SpelledLines.{SpellLines}
use Rattle.goal_files.specs.LineReading.{kept_lines, StopsBy, IsGoalLineFault}
use Rattle.goal_files.specs.declared.faults.GoalFault.{GoalFault}
use Rattle.goal_files.specs.declared.faults.GoalFault.TheVariants.{Shape, UnknownAtom, NoGoal, TooManyGoals, OutOfMemory}
use Rattle.goal_files.proofs.GroundLaws.{one_atom}
use Rattle.goal_files.proofs.Readings.{only_atoms}
use Rattle.goal_files.proofs.LineLaws.{first_bad}
use Rattle.goal_files.proofs.LineAnswers.{same_values, SpellsNone, same_number, not_both, none_bad, answered_exactly, refused_exactly}

abbrev Goals : Type 0
Goals = List (List PlainGroundAtom)

-- the fault of a line is that of the text
pub line_fault : (t : PlainTyped) (text : List ℕ) (f : GoalFault) → StopsBy (SpellsGoal t) (IsGoalLineFault t) (kept_lines text) f → (f ≡ OutOfMemory) ⊎ IsGoalFault t text f
line_fault t text (Shape n) stops = inr (first_bad (SpellsGoal t) text stops.0 n HasNoAtoms stops.1 stops.2.0 stops.2.1)
line_fault t text (UnknownAtom n) stops = inr (first_bad (SpellsGoal t) text stops.0 n (HasUnknownAtom t) stops.1 stops.2.0 stops.2.1)
line_fault t text NoGoal stops = absurd stops.2
line_fault t text (TooManyGoals n) stops = absurd stops.2
line_fault t text OutOfMemory stops = inl refl

module _ (t : PlainTyped) (task : IsTypedTask t) where
  -- ---- a line spells one goal

  pub one_goal : (line : List ℕ) (goal other : List PlainGroundAtom) → SpellsGoal t line goal → SpellsGoal t line other → goal ≡ other
  one_goal line goal other g h =
      let ground_atoms = subst (λ atoms. Pairwise (IsAtomOf t) atoms h.ground_atoms) (only_atoms line h.atoms g.atoms h.spelled g.spelled) h.are_atoms in
      g.once ∙ ap without_repeats (same_values (IsAtomOf t) (λ names a b is same. one_atom t names a b task is same) g.atoms g.ground_atoms h.ground_atoms g.are_atoms ground_atoms) ∙ sym h.once

  only_goals : (text : List ℕ) (goals others : Goals) → SpellLines (SpellsGoal t) text goals → SpellLines (SpellsGoal t) text others → goals ≡ others
  only_goals text goals others g h = same_values (SpellsGoal t) one_goal _ goals others g h

  no_atoms_none : SpellsNone (SpellsGoal t) HasNoAtoms
  no_atoms_none line none goal spells = none spells.atoms spells.spelled

  unknown_none : SpellsNone (SpellsGoal t) (HasUnknownAtom t)
  unknown_none line unknown goal spells = unknown.1 goal spells

  apart : (line : List ℕ) → HasNoAtoms line → HasUnknownAtom t line → ⊥
  apart line none unknown = none unknown.0.0 unknown.0.1

  -- ---- what is at fault

  module _ (text : List ℕ) where
    -- where the lines spell goals, the fault is in their count
    count_fault : (goals : Goals) (f : GoalFault) → SpellLines (SpellsGoal t) text goals → IsGoalFault t text f → ((f ≡ NoGoal) × (length goals ≡ 0)) ⊎ ((f ≡ TooManyGoals (length goals)) × (32 < length goals))
    count_fault goals (Shape n) spells h = absurd (none_bad (SpellsGoal t) text HasNoAtoms n goals no_atoms_none h spells)
    count_fault goals (UnknownAtom n) spells h = absurd (none_bad (SpellsGoal t) text (HasUnknownAtom t) n goals unknown_none h spells)
    count_fault goals NoGoal spells h = inl (refl, ap length (only_goals text goals [] spells h))
    count_fault goals (TooManyGoals n) spells h =
        let same : length goals ≡ n = ap length (only_goals text goals h.0.0 spells h.0.1) ∙ h.0.2 in
        inr (ap TooManyGoals (sym same), omega (arith, h.1))
    count_fault goals OutOfMemory spells h = absurd h

    no_fault : (goals : Goals) (f : GoalFault) → SpellsGoals t text goals → IsGoalFault t text f → ⊥
    no_fault goals f s h = at_count (count_fault goals f s.lines h)
      where
        at_count : ((f ≡ NoGoal) × (length goals ≡ 0)) ⊎ ((f ≡ TooManyGoals (length goals)) × (32 < length goals)) → ⊥
        at_count (inl none) = omega (arith, none.1, s.some)
        at_count (inr many) = omega (arith, many.1, s.few)

    one_fault : (f g : GoalFault) → IsGoalFault t text f → IsGoalFault t text g → f ≡ g
    one_fault (Shape n) (Shape m) h k = ap Shape (same_number (SpellsGoal t) text HasNoAtoms n m no_atoms_none h k)
    one_fault (Shape n) (UnknownAtom m) h k = absurd (not_both (SpellsGoal t) text HasNoAtoms (HasUnknownAtom t) n m no_atoms_none unknown_none apart h k)
    one_fault (Shape n) NoGoal h k = absurd (none_bad (SpellsGoal t) text HasNoAtoms n [] no_atoms_none h k)
    one_fault (Shape n) (TooManyGoals m) h k = absurd (none_bad (SpellsGoal t) text HasNoAtoms n k.0.0 no_atoms_none h k.0.1)
    one_fault (Shape n) OutOfMemory h k = absurd k
    one_fault (UnknownAtom n) (Shape m) h k = absurd (not_both (SpellsGoal t) text HasNoAtoms (HasUnknownAtom t) m n no_atoms_none unknown_none apart k h)
    one_fault (UnknownAtom n) (UnknownAtom m) h k = ap UnknownAtom (same_number (SpellsGoal t) text (HasUnknownAtom t) n m unknown_none h k)
    one_fault (UnknownAtom n) NoGoal h k = absurd (none_bad (SpellsGoal t) text (HasUnknownAtom t) n [] unknown_none h k)
    one_fault (UnknownAtom n) (TooManyGoals m) h k = absurd (none_bad (SpellsGoal t) text (HasUnknownAtom t) n k.0.0 unknown_none h k.0.1)
    one_fault (UnknownAtom n) OutOfMemory h k = absurd k
    one_fault NoGoal g h k = at_count (count_fault [] g h k)
      where
        at_count : ((g ≡ NoGoal) × (◌≡◌ {A = ℕ} 0 0)) ⊎ ((g ≡ TooManyGoals 0) × (32 < 0)) → NoGoal ≡ g
        at_count (inl none) = sym none.0
        at_count (inr many) = absurd (omega (arith, many.1))
    one_fault (TooManyGoals n) g h k = at_count (count_fault h.0.0 g h.0.1 k)
      where
        at_count : ((g ≡ NoGoal) × (length h.0.0 ≡ 0)) ⊎ ((g ≡ TooManyGoals (length h.0.0)) × (32 < length h.0.0)) → TooManyGoals n ≡ g
        at_count (inl none) = absurd (omega (arith, none.1, h.0.2, h.1))
        at_count (inr many) = ap TooManyGoals (sym h.0.2) ∙ sym many.0
    one_fault OutOfMemory g h k = absurd h

    one_answer : (goals others : Goals) → SpellsGoals t text goals → SpellsGoals t text others → goals ≡ others
    one_answer goals others g h = only_goals text goals others g.lines h.lines

    module _ {V : Type 0} (items : V → Goals) (result : Result V GoalFault) (ok : IfOk result (λ v. SpellsGoals t text (items v))) (err : IfErr result (λ f. (f ≡ OutOfMemory) ⊎ IsGoalFault t text f)) where
      pub spelled_exactly : (goals : Goals) → SpellsGoals t text goals → IsOkAnd result (λ v. items v ≡ goals) ⊎ (result ≡ Err OutOfMemory)
      spelled_exactly = answered_exactly (SpellsGoals t text) (IsGoalFault t text) OutOfMemory one_answer one_fault no_fault items result ok err

      pub fault_exactly : (f : GoalFault) → IsGoalFault t text f → (result ≡ Err f) ⊎ (result ≡ Err OutOfMemory)
      fault_exactly = refused_exactly (SpellsGoals t text) (IsGoalFault t text) OutOfMemory one_answer one_fault no_fault items result ok err
