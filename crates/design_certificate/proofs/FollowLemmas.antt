-- What the test of live rows finds at a successor.
use Rattle.std.proofs.Common.{◌≡◌, ◌↔◌, ℕ, ◌+◌, ◌<◌, ◌≤◌, Bool, true, false, List, [], ◌∷◌, ◌++◌, length, take, get_or, refl, sym, ◌∙◌, subst, inl, inr, arith, Option, Some, None}
use Rattle.std.specs.Prelude.{IsTrue, Contains, All, Any}
use Rattle.std.proofs.lemmas.List.{take_more, take_all}
use Rattle.std.proofs.lemmas.List.Elements.{All-contains, Contains-get_or, Contains-push_cases, Contains-push, Contains-append_left}
use Rattle.std.proofs.lemmas.Bool.{false≢true}
use Rattle.std.proofs.lemmas.Option.{same_Some}
use Rattle.grd_base.specs.declared.ids.ActionId.{ActionId}
use Rattle.grd_base.specs.declared.ids.GoalId.{GoalId}
use Rattle.grd_base.specs.declared.limits.Bound.TheVariants.{Steps}
use Rattle.strips_model.specs.Plans.{State, step, step_without}
use Rattle.strips_model.specs.Values.{PlainTask}
use Rattle.strips_model.specs.Moves.{allowed_of}
use Rattle.strips_model.proofs.MoveLemmas.{allowed_step, step_allowed}
use Rattle.cost_certificate.specs.Tables.{HasRow}
use Rattle.design_certificate.specs.Designs.{Gives}
use Rattle.design_certificate.specs.Live.{PlainLiveRow, PlainLiveRows, GoalTable, StaysLive, Follows, IsFollowed, Begins, IsValidLive}
use Rattle.design_certificate.specs.Index.{HasAll}
use Rattle.design_certificate.specs.LiveFaults.{HaveGoals, IsGoalTable, HasNumbers, IsFollowedOn}
use Rattle.design_certificate.proofs.LeafLemmas.{one_number}

-- no table of the goal refutes it at the state
abbrev pub IsOpen : List GoalTable → State → GoalId → ℕ → Type 0
IsOpen tables u g left = All (λ x. x.0 ≡ g → HasRow x.1 u (Steps left) → ⊥) tables

-- a goal of the row with a number that leaves some actions stays live where it is open
pub stays_tells : (costs : List (Option ℕ)) (tables : List GoalTable) (row : PlainLiveRow) (u : State) (g : GoalId) (c left : ℕ) (b : Bool) → Contains row.goals g → Gives costs g c
    → row.depth + 1 + left ≡ c → (IsTrue b ↔ IsOpen tables u g left) → IsTrue b ↔ StaysLive costs tables row u g
stays_tells costs tables row u g c left b there gives adds tells = (
  λ h. record { there = there; left = left; number = subst (λ n. Gives costs g n) (sym adds) gives; open_there = tells.0 h },
  λ stays.
      let same : row.depth + 1 + stays.left ≡ c = one_number costs g (row.depth + 1 + stays.left) c stays.number gives in
      let alike : stays.left ≡ left = omega (arith, same, adds) in
      tells.1 (subst (λ n. IsOpen tables u g n) alike stays.open_there),
)

-- where the number leaves none, or there is none, it doesn't
pub stays_none : (costs : List (Option ℕ)) (tables : List GoalTable) (row : PlainLiveRow) (u : State) (g : GoalId) (c : ℕ) → Gives costs g c → c ≤ row.depth → StaysLive costs tables row u g → ⊥
stays_none costs tables row u g c gives low stays =
    let same : row.depth + 1 + stays.left ≡ c = one_number costs g (row.depth + 1 + stays.left) c stays.number gives in
    omega (arith, same, low)

-- the goals of some rows that pass a test, in their order
module _ (P : GoalId → Type 0) where
  -- those so far are those of the first goals that pass
  pub record ArePassed (goals : List GoalId) (i : ℕ) (found : List GoalId) : Type 0 where
    pub sound : (g : GoalId) → Contains found g → Contains (take i goals) g × P g
    pub whole : (g : GoalId) → Contains (take i goals) g → P g → Contains found g

  pub passed_more : (goals found : List GoalId) (i : ℕ) (d : GoalId) → i < length goals → ArePassed goals i found → P (get_or goals i d) → ArePassed goals (i + 1) (found ++ get_or goals i d ∷ [])
  passed_more goals found i d within so_far passes =
      let x = get_or goals i d in record {
        sound = λ g there. elim (Contains-push_cases found x g there) [
          | inl old ↦ (subst (λ xs. Contains xs g) (sym (take_more goals i d within)) (Contains-append_left (take i goals) (x ∷ []) g (so_far.sound g old).0), (so_far.sound g old).1)
          | inr new ↦ (subst (λ xs. Contains xs g) (sym (take_more goals i d within)) (subst (λ y. Contains (take i goals ++ x ∷ []) y) new (Contains-push (take i goals) x)), subst P new passes)
        ];
        whole = λ g there passed. elim (Contains-push_cases (take i goals) x g (subst (λ xs. Contains xs g) (take_more goals i d within) there)) [
          | inl old ↦ Contains-append_left found (x ∷ []) g (so_far.whole g old passed)
          | inr new ↦ subst (λ y. Contains (found ++ x ∷ []) y) new (Contains-push found x)
        ];
      }

  pub passed_over : (goals found : List GoalId) (i : ℕ) (d : GoalId) → i < length goals → ArePassed goals i found → (P (get_or goals i d) → ⊥) → ArePassed goals (i + 1) found
  passed_over goals found i d within so_far fails =
      let x = get_or goals i d in record {
        sound = λ g there. (subst (λ xs. Contains xs g) (sym (take_more goals i d within)) (Contains-append_left (take i goals) (x ∷ []) g (so_far.sound g there).0), (so_far.sound g there).1);
        whole = λ g there passed. elim (Contains-push_cases (take i goals) x g (subst (λ xs. Contains xs g) (take_more goals i d within) there)) [
          | inl old ↦ so_far.whole g old passed
          | inr new ↦ absurd (fails (subst P (sym new) passed))
        ];
      }

  -- behind the last goal, those that were found are those that pass
  pub passed_all : (goals found : List GoalId) (i : ℕ) → length goals ≤ i → ArePassed goals i found → ((g : GoalId) → P g → Contains goals g) → (g : GoalId) → Contains found g ↔ P g
  passed_all goals found i past so_far there g = (
    λ h. (so_far.sound g h).1,
    λ passed. so_far.whole g (subst (λ xs. Contains xs g) (sym (take_all i goals past)) (there g passed)) passed,
  )

  -- the same where the list is known under another name
  pub passed_next : (goals items found new : List GoalId) (i : ℕ) (d : GoalId) → items ≡ goals → i < length items → ArePassed goals i found → P (get_or items i d) → new ≡ found ++ get_or items i d ∷ []
      → ArePassed goals (i + 1) new
  passed_next goals items found new i d same within so_far passes is =
      subst (λ xs. ArePassed xs (i + 1) new) same (subst (λ ys. ArePassed items (i + 1) ys) (sym is)
      (passed_more items found i d within (subst (λ xs. ArePassed xs i found) (sym same) so_far) passes))

  pub passed_by : (goals items found new : List GoalId) (i : ℕ) (d : GoalId) → items ≡ goals → i < length items → ArePassed goals i found → (P (get_or items i d) → ⊥) → new ≡ found
      → ArePassed goals (i + 1) new
  passed_by goals items found new i d same within so_far fails is =
      subst (λ xs. ArePassed xs (i + 1) new) same (subst (λ ys. ArePassed items (i + 1) ys) (sym is)
      (passed_over items found i d within (subst (λ xs. ArePassed xs i found) (sym same) so_far) fails))

-- the goals that stay live, where the tables and the list are known under other names
pub told_by : (costs : List (Option ℕ)) (tables others : List GoalTable) (row : PlainLiveRow) (u : State) (found goals : List GoalId) → others ≡ tables → goals ≡ found
    → ((g : GoalId) → Contains found g ↔ StaysLive costs others row u g) → (g : GoalId) → Contains goals g ↔ StaysLive costs tables row u g
told_by costs tables others row u found goals same alike tells g =
    subst (λ xs. Contains xs g ↔ StaysLive costs tables row u g) (sym alike) (subst (λ ts. Contains found g ↔ StaysLive costs ts row u g) same (tells g))

-- the answer on a row, where fewer than two goals stay live, where it would be too deep, and else
module _ (costs : List (Option ℕ)) (len : ℕ) (live : PlainLiveRows) (row : PlainLiveRow) (u : State) (found : List GoalId) (tells : (g : GoalId) → Contains found g ↔ StaysLive costs live.tables row u g) where
  -- a row with the goals that stay live follows
  next_follows : (next : PlainLiveRow) → HasAll found u (row.depth + 1) next ↔ Follows costs live row u next
  next_follows next = (
    λ is. record { depth = is.0.1; state = is.0.0; goals = λ g stays. All-contains (Contains next.goals) found g is.1 ((tells g).1 stays) },
    λ follows. ((follows.state, follows.depth), λ k d low. follows.goals (get_or found k d) ((tells (get_or found k d)).0 (Contains-get_or found k d low))),
  )

  pub few_followed : ((g h : GoalId) → Contains found g → Contains found h → g ≡ h) → IsTrue true ↔ IsFollowed costs len live row u
  few_followed one = (λ _ g h differ stays also. absurd (differ (one g h ((tells g).1 stays) ((tells h).1 also))), λ _. refl)

  -- two of them differ
  abbrev pub AreTwo : Type 0
  AreTwo = (g : GoalId) × (h : GoalId) × (g ≡ h → ⊥) × Contains found g × Contains found h

  next_of_two : AreTwo → IsFollowed costs len live row u → (row.depth + 1 ≤ len) × Any (Follows costs live row u) live.rows
  next_of_two (g, h, differ, there, also) followed = followed g h differ ((tells g).0 there) ((tells h).0 also)

  pub deep_followed : AreTwo → len ≤ row.depth → IsTrue false ↔ IsFollowed costs len live row u
  deep_followed two deep = (λ h. absurd (false≢true h), λ followed. absurd (let low = (next_of_two two followed).0 in omega (arith, low, deep)))

  pub next_followed : (b : Bool) → AreTwo → row.depth < len → (IsTrue b ↔ Any (HasAll found u (row.depth + 1)) live.rows) → IsTrue b ↔ IsFollowed costs len live row u
  next_followed b two low is = (
    λ h g k differ stays also. let (i, next, within, at, here) = is.0 h in (omega (arith, low), (i, next, within, at, (next_follows next).0 here)),
    λ followed. let (i, next, within, at, here) = (next_of_two two followed).1 in is.1 (i, next, within, at, (next_follows next).1 here),
  )

-- what is told of the step by an allowed action
module _ (t : PlainTask) (removed : List ActionId) (Q : State → Type 0) (s : State) where
  abbrev pub HasStep : ActionId → Type 0
  HasStep a = (u : State) → step_without t removed s a ≡ Some u → Q u

  pub step_tells : (a : ActionId) (next : State) (b : Bool) → Contains (allowed_of t removed) a → Some next ≡ step t s a → (IsTrue b ↔ Q next) → IsTrue b ↔ HasStep a
  step_tells a next b allowed leads tells =
      let is : step_without t removed s a ≡ Some next = allowed_step t removed a allowed s ∙ sym leads in (
        λ h u there. subst Q (same_Some next u (sym is ∙ there)) (tells.0 h),
        λ all. tells.1 (all next is),
      )

  pub no_step_tells : (a : ActionId) → Contains (allowed_of t removed) a → None ≡ step t s a → IsTrue true ↔ HasStep a
  no_step_tells a allowed stuck = (λ _ u there. let e : None ≡ Some u = stuck ∙ sym (allowed_step t removed a allowed s) ∙ there in cc, λ _. refl)

  -- all steps are by allowed actions
  pub all_steps : All HasStep (allowed_of t removed) → (a : ActionId) → HasStep a
  all_steps all a u there = All-contains HasStep (allowed_of t removed) a all (step_allowed t removed s a u there) u there

-- the parts of valid live rows
pub live_valid : (t : PlainTask) (costs : List (Option ℕ)) (removed : List ActionId) (len : ℕ) (live : PlainLiveRows) → HaveGoals t costs removed len live → All (IsGoalTable t costs removed len live) live.tables
    → All (HasNumbers t costs removed len live) live.rows → All (IsFollowedOn t costs removed len live) live.rows → Any (Begins t costs) live.rows → IsValidLive t costs removed len live
unfolding IsFollowedOn
live_valid t costs removed len live each tables numbers followed begins = record {
  each_goal = each;
  tables = tables;
  deep = λ k d within. (numbers k d within).0;
  goals = λ k d within. (numbers k d within).1;
  begins = begins;
  followed = followed;
}
