-- Rounds as the floor makes them: how many they were, and the sets that they reached in turn, which are a family
-- and show the level.
use Rattle.std.proofs.Common.{◌≡◌, ◌≤◌, ◌<◌, ℕ, suc, ◌+◌, Bool, true, false, List, [], ◌∷◌, ◌++◌, length, get_or, refl, sym, ◌∙◌, ap, subst, inl, inr, arith, Some, None}
use Rattle.std.specs.Prelude.{All}
use Rattle.std.proofs.lemmas.Bool.{false≢true, cases_eq}
use Rattle.std.proofs.lemmas.List.{length-append, get_or_push, get_or_append_left}
use Rattle.std.proofs.lemmas.List.Elements.{All-nil, All-cons, All-push}
use Rattle.grd_base.specs.declared.ids.AtomId.{AtomId}
use Rattle.grd_base.specs.declared.ids.ActionId.{ActionId}
use Rattle.grd_base.specs.declared.ids.GoalId.{GoalId}
use Rattle.grd_base.specs.declared.limits.Bound.{Bound}
use Rattle.grd_base.specs.declared.limits.Bound.TheVariants.{Steps, Never}
use Rattle.grd_base.specs.Sets.{IsSubset}
use Rattle.strips_model.specs.Values.{PlainTask, AreAtoms, IsTask}
use Rattle.strips_model.specs.Plans.{State, IsOver, set_of, goal_holds, Reaches}
use Rattle.strips_model.specs.Cuts.{cut, IsEmptyCut, IsFamily}
use Rattle.strips_model.specs.Levels.{grown, after_rounds, IsLevel, missing}
use Rattle.strips_model.proofs.AtomLists.{atoms_below}
use Rattle.strips_model.proofs.LevelLaws.{round_next, rounds_rise, rounds_over, closed_never, level_same, level_steps, level_none}
use Rattle.strips_model.proofs.CutLaws.{cuts_apart, closed_empty, empty_closed}
use Rattle.strips_model.proofs.LevelNumbers.{missing_few}
use Rattle.level_bounds.specs.Floors.{PlainFloor, level_of, MeetsBound, ShowsLevel}

-- what a test of the floor's goal told
pub told : (t : PlainTask) (f h : PlainFloor) (u : State) (r b : Bool) → f ≡ h → r ≡ goal_holds t f.goal u → r ≡ b → goal_holds t h.goal u ≡ b
told t f h u r b same tests is = ap (λ (x : PlainFloor). goal_holds t x.goal u) (sym same) ∙ sym tests ∙ is

-- no sequence to the goal is shorter than a bound that is its level
pub level_meets : (t : PlainTask) (g : GoalId) (removed : List ActionId) (s : State) (bound : Bound) → IsLevel t g removed s (level_of bound)
    → (p : List ActionId) → Reaches t g removed s p → MeetsBound bound (length p)
level_meets t g removed s (Steps n) level p reaches = level_steps t g removed s n level p reaches
level_meets t g removed s Never level p reaches = level_none t g removed s level p reaches

-- so many rounds reached the set, and the goal did not hold before; each of them reached an atom
pub record AreRounds (t : PlainTask) (g : GoalId) (removed : List ActionId) (s u : State) (rounds : ℕ) : Type 0 where
  pub reached : u ≡ after_rounds t removed s rounds
  pub before : (j : ℕ) → j < rounds → goal_holds t g (after_rounds t removed s j) ≡ false
  pub few : rounds + missing u t.atoms ≤ t.atoms

module _ (t : PlainTask) (g : GoalId) (removed : List ActionId) (s : State) where
  -- no rounds reach the state
  pub no_rounds : (u : State) → u ≡ s → AreRounds t g removed s u 0
  unfolding after_rounds
  no_rounds u same = record { reached = same; before = λ j low. absurd (omega arith); few = omega (arith, missing_few u t.atoms) }

  -- one round more
  pub one_more : (u v : State) (rounds : ℕ) → AreRounds t g removed s u rounds → goal_holds t g u ≡ false → v ≡ grown t removed u → missing v t.atoms < missing u t.atoms
      → AreRounds t g removed s v (rounds + 1)
  one_more u v rounds are leaves_open is fewer = record {
    reached = is ∙ ap (grown t removed) are.reached ∙ sym (round_next t removed s rounds);
    before = λ j low. elim (cases_eq j rounds) [
      | inl same ↦ ap (λ k. goal_holds t g (after_rounds t removed s k)) same ∙ ap (goal_holds t g) (sym are.reached) ∙ leaves_open
      | inr other ↦ are.before j (omega arith)
    ];
    few = omega (arith, are.few);
  }

  -- where the goal holds, the rounds are its level
  pub rounds_level : (u : State) (rounds : ℕ) → AreRounds t g removed s u rounds → goal_holds t g u ≡ true → IsLevel t g removed s (Some rounds)
  rounds_level u rounds are holds = (ap (goal_holds t g) (sym are.reached) ∙ holds, are.before)

  -- the goal has no level where the last round reached nothing more
  pub rounds_never : (u : State) (rounds : ℕ) → AreRounds t g removed s u rounds → goal_holds t g u ≡ false → grown t removed u ≡ u → IsLevel t g removed s None
  rounds_never u rounds are leaves_open closed =
      closed_never t g removed s rounds (ap (grown t removed) (sym are.reached) ∙ closed ∙ are.reached)
      (λ j low. elim (cases_eq j rounds) [
        | inl same ↦ ap (λ k. goal_holds t g (after_rounds t removed s k)) same ∙ ap (goal_holds t g) (sym are.reached) ∙ leaves_open
        | inr other ↦ are.before j (omega arith)
      ])

-- the sets are those that are reached in turn
abbrev pub AreReached : PlainTask → List ActionId → State → List (List AtomId) → Type 0
AreReached t removed s sets = (i : ℕ) (d : List AtomId) → i < length sets → set_of (get_or sets i d) ≡ after_rounds t removed s i

module _ (t : PlainTask) (g : GoalId) (removed : List ActionId) (s : State) where
  -- the sets that are reached before the level are a family
  pub rounds_family : (sets : List (List AtomId)) → AreReached t removed s sets → IsLevel t g removed s (Some (length sets)) → IsFamily t g removed s sets
  unfolding after_rounds
  rounds_family sets reached level = record {
    contain = λ i d within. subst (IsSubset s) (sym (reached i d within)) (rounds_rise t removed s 0 i (omega arith));
    leave_open = λ i d within. ap (goal_holds t g) (reached i d within) ∙ level.1 i within;
    apart = λ i j d low high a in_i in_j. cuts_apart t removed (after_rounds t removed s i) (after_rounds t removed s j) (rounds_rise t removed s (suc i) j (omega (arith, low))) a
        (ap (λ u. cut t removed u a) (sym (reached i d (omega (arith, low, high)))) ∙ in_i) (ap (λ u. cut t removed u a) (sym (reached j d high)) ∙ in_j);
  }

  -- and show the level
  pub rounds_show : (sets : List (List AtomId)) → AreReached t removed s sets → IsLevel t g removed s (Some (length sets)) → ShowsLevel t g removed s sets
  rounds_show sets reached level = record {
    some = λ n is. (
      cc (level_same t g removed s (Some (length sets)) (Some n) level is),
      λ i d within empty.
          let closed = empty_closed t removed (after_rounds t removed s i) (subst (λ u. IsEmptyCut (cut t removed u)) (reached i d within) empty) in
          let never = closed_never t g removed s i closed (λ j low. level.1 j (omega (arith, low))) in
          false≢true (sym (never (length sets)) ∙ level.0),
    );
    none = λ never. absurd (false≢true (sym (never (length sets)) ∙ level.0));
  }

  -- a set where a round reaches nothing more and the goal never held is a family
  pub closed_family : (k : ℕ) (u : List AtomId) → set_of u ≡ after_rounds t removed s k → IsLevel t g removed s None → IsFamily t g removed s (u ∷ [])
  unfolding after_rounds
  closed_family k u reached never = record {
    contain = All-cons (λ v. IsSubset s (set_of v)) u [] (subst (IsSubset s) (sym reached) (rounds_rise t removed s 0 k (omega arith))) (All-nil _);
    leave_open = All-cons (λ v. goal_holds t g (set_of v) ≡ false) u [] (ap (goal_holds t g) reached ∙ never k) (All-nil _);
    apart = λ i j d low high. absurd (omega (arith, low, high));
  }

  -- and shows that it has no level
  pub closed_shows : (u : List AtomId) → grown t removed (set_of u) ≡ set_of u → IsLevel t g removed s None → ShowsLevel t g removed s (u ∷ [])
  closed_shows u closed never = record {
    some = λ n is. absurd (false≢true (sym (never n) ∙ is.0));
    none = λ _. (refl, All-cons (λ v. IsEmptyCut (cut t removed (set_of v))) u [] (closed_empty t removed (set_of u) closed) (All-nil _));
  }

-- the sets are those that so many rounds reached before the one in hand, each rising
pub record AreSets (t : PlainTask) (g : GoalId) (removed : List ActionId) (s u : State) (wide : ℕ) (sets : List (List AtomId)) : Type 0 where
  pub rounds : AreRounds t g removed s u (length sets)
  pub reached : AreReached t removed s sets
  pub atoms : All (AreAtoms wide) sets

module _ (t : PlainTask) (g : GoalId) (removed : List ActionId) (s : State) (wide : ℕ) where
  -- no rounds reached no sets
  pub no_sets : (u : State) → u ≡ s → AreSets t g removed s u wide []
  no_sets u same = record {
    rounds = no_rounds t g removed s u same;
    reached = λ i d within. absurd (omega (arith, within));
    atoms = All-nil (AreAtoms wide);
  }

  -- one round more
  pub one_more_set : (u v : State) (sets : List (List AtomId)) (set : List AtomId) → AreSets t g removed s u wide sets → goal_holds t g u ≡ false → set_of set ≡ u → AreAtoms wide set
      → v ≡ grown t removed u → missing v t.atoms < missing u t.atoms → AreSets t g removed s v wide (sets ++ set ∷ [])
  one_more_set u v sets set are leaves_open same rises is fewer =
      let longer : length sets + 1 ≡ length (sets ++ set ∷ []) = sym (length-append sets (set ∷ [])) in record {
        rounds = subst (AreRounds t g removed s v) longer (one_more t g removed s u v (length sets) are.rounds leaves_open is fewer);
        reached = λ i d within. elim (cases_eq i (length sets)) [
          | inl last ↦ ap set_of (get_or_push sets set d i (sym last)) ∙ same ∙ are.rounds.reached ∙ ap (after_rounds t removed s) (sym last)
          | inr other ↦
              let low : i < length sets = omega (arith, within, longer) in
              ap set_of (get_or_append_left sets (set ∷ []) d i low) ∙ are.reached i d low
        ];
        atoms = All-push (AreAtoms wide) sets set are.atoms rises;
      }

  -- where the goal holds, the sets are a family
  pub sets_family : (u : State) (sets : List (List AtomId)) → AreSets t g removed s u wide sets → goal_holds t g u ≡ true → IsFamily t g removed s sets
  sets_family u sets are holds = rounds_family t g removed s sets are.reached (rounds_level t g removed s u (length sets) are.rounds holds)

  -- and show the level
  pub sets_show : (u : State) (sets : List (List AtomId)) → AreSets t g removed s u wide sets → goal_holds t g u ≡ true → ShowsLevel t g removed s sets
  sets_show u sets are holds = rounds_show t g removed s sets are.reached (rounds_level t g removed s u (length sets) are.rounds holds)

  -- and their atoms are the task's
  pub sets_below : (u : State) (sets : List (List AtomId)) → AreSets t g removed s u wide sets → IsTask t → IsOver t s → All (AreAtoms t.atoms) sets
  sets_below u sets are task over i d within =
      atoms_below wide t.atoms (get_or sets i d) (are.atoms i d within) (λ n high. ap (λ v. v n) (are.reached i d within) ∙ rounds_over t task removed s over i n high)

  -- where a round reaches nothing more and the goal never held, the last set is a family
  pub last_family : (u : State) (sets : List (List AtomId)) (set : List AtomId) → AreSets t g removed s u wide sets → goal_holds t g u ≡ false → set_of set ≡ u → grown t removed u ≡ u
      → IsFamily t g removed s (set ∷ [])
  last_family u sets set are leaves_open same closed =
      closed_family t g removed s (length sets) set (same ∙ are.rounds.reached) (rounds_never t g removed s u (length sets) are.rounds leaves_open closed)

  -- and shows that there is no level
  pub last_shows : (u : State) (sets : List (List AtomId)) (set : List AtomId) → AreSets t g removed s u wide sets → goal_holds t g u ≡ false → set_of set ≡ u → grown t removed u ≡ u
      → ShowsLevel t g removed s (set ∷ [])
  last_shows u sets set are leaves_open same closed =
      closed_shows t g removed s set (ap (grown t removed) same ∙ closed ∙ sym same) (rounds_never t g removed s u (length sets) are.rounds leaves_open closed)

  -- and its atoms are the task's
  pub last_below : IsTask t → (u : State) (sets : List (List AtomId)) (set : List AtomId) → AreSets t g removed s u wide sets → set_of set ≡ u → AreAtoms wide set → IsOver t s
      → All (AreAtoms t.atoms) (set ∷ [])
  last_below task u sets set are same rises over =
      All-cons (AreAtoms t.atoms) set [] (atoms_below wide t.atoms set rises (λ n high. ap (λ v. v n) (same ∙ are.rounds.reached) ∙ rounds_over t task removed s over (length sets) n high))
      (All-nil (AreAtoms t.atoms))
