-- A plan that begins with a given sequence, put together step by step along live states.
use Rattle.std.proofs.Common.{◌≡◌, ℕ, ◌+◌, ◌<◌, List, [], ◌∷◌, ◌++◌, length, append_assoc, sym, ◌∙◌, ap, arith, rules, Some}
use Rattle.std.specs.Prelude.{IsSomeAnd, IsTrue}
use Rattle.std.specs.Option.{option_and_then}
use Rattle.std.proofs.lemmas.List.{length_push}
use mathlib.Core.Path.{subst}
use Rattle.grd_base.specs.declared.ids.ActionId.{ActionId}
use Rattle.grd_base.specs.declared.ids.GoalId.{GoalId}
use Rattle.strips_model.specs.Values.{PlainTask}
use Rattle.strips_model.specs.Plans.{State, after, step, start_of, goal_holds, IsOptimal}
use Rattle.strips_model.specs.Agents.{BeginsWith}
use Rattle.plain_search.specs.Walks.{Visit}
use Rattle.plain_search.specs.Live.{AreDeep, IsAt, EndsAt, IsLive, IsNext}
use Rattle.plain_search.proofs.WalkPlanLemmas.{after_push}
use Rattle.plain_search.proofs.LiveLemmas.{path_leads, depth_is}
use Rattle.plain_search.proofs.CommonLemmas.{same_state, same_depth, behind}

-- the sequence leads to the state at the place, as deep as it is long, where the goal is live
pub record IsPart (t : PlainTask) (vs : List Visit) (depths : List ℕ) (g : GoalId) (prefix : List ActionId) (place : ℕ) (plan : List ActionId) : Type 0 where
  pub state : State
  pub here : IsAt vs depths place state (length plan)
  pub leads : after t [] (start_of t) plan ≡ Some state
  pub live : IsLive t state (length plan) g
  pub begins : BeginsWith plan prefix

module _ (t : PlainTask) (vs : List Visit) (depths : List ℕ) (deep : AreDeep t vs depths) (g : GoalId) where
  -- the path to a place, where the goal is live
  pub part_begins : (place : ℕ) (s : State) (d : ℕ) (prefix : List ActionId) → IsAt vs depths place s d → IsLive t s d g → prefix ≡ deep.layered.path place → IsPart t vs depths g prefix place prefix
  part_begins place s d prefix at live is =
      let long : d ≡ length prefix = depth_is t vs depths deep place s d at ∙ ap length (sym is) in
      record {
        state = s;
        here = subst (λ n. IsAt vs depths place s n) long at;
        leads = ap (after t [] (start_of t)) is ∙ path_leads t vs depths deep place s d at;
        live = subst (λ n. IsLive t s n g) long live;
        begins = ([], search rules);
      }

  module _ (prefix : List ActionId) (place : ℕ) (plan : List ActionId) (is : IsPart t vs depths g prefix place plan) where
    pub part_more : (a : ActionId) (next : ℕ) → IsNext t vs depths g place a next → IsPart t vs depths g prefix next (plan ++ a ∷ [])
    part_more a next on =
        let d : on.depth ≡ length plan = same_depth vs depths place on.state is.state on.depth (length plan) on.here is.here in
        let s : on.state ≡ is.state = same_state vs depths place on.state is.state on.depth (length plan) on.here is.here in
        let long : on.depth + 1 ≡ length (plan ++ a ∷ []) = omega (arith, length_push plan a) in
        record {
          state = on.to.state;
          here = subst (λ n. IsAt vs depths next on.to.state n) long on.to.deeper;
          leads = after_push t (start_of t) plan a ∙ ap (option_and_then (λ u. step t u a)) is.leads ∙ ap (λ u. step t u a) (sym s) ∙ on.to.step;
          live = subst (λ n. IsLive t on.to.state n g) long on.live;
          begins = (is.begins.0 ++ a ∷ [], ap (λ p. p ++ a ∷ []) is.begins.1 ∙ append_assoc prefix is.begins.0 (a ∷ []));
        }

    pub part_behind : (a : ActionId) (next : ℕ) → IsNext t vs depths g place a next → place < next
    part_behind a next on = behind t vs depths deep place next on.state on.to.state on.depth (on.depth + 1) on.here on.to.deeper (omega arith)

    -- where the goal ends, the sequence is an optimal plan
    pub part_done : ((s : State) (d : ℕ) → IsAt vs depths place s d → IsLive t s d g → EndsAt t s d g) → IsOptimal t g [] plan
    part_done none =
        let ends = none is.state (length plan) is.here is.live in
        (subst (λ o. IsSomeAnd o (λ u. IsTrue (goal_holds t g u))) (sym is.leads) ends.1, ends.0)
