use Rattle.std.proofs.Common.{◌≡◌, ◌≤◌, ◌∙◌, ap, sym, length, arith, List}
use Rattle.std.proofs.lemmas.Bool.{false≢true}
use Rattle.grd_base.specs.declared.ids.GoalId.{GoalId}
use Rattle.grd_base.specs.Bits.{members}
use Rattle.design_certificate.specs.Live.{PlainLiveRow, StaysLive}
use Rattle.design_certificate.proofs.FollowLemmas.{passed_next, passed_by, passed_all}
use Rattle.design_certificate.proofs.followed.live_goals.Goals as goal
use Rattle.design_certificate.proofs.followed.live_goals.Goals.{then-stays_live+in_ok-push, else-stays_live}

pub loop-goal-preserved : goal.loop-goal-preserved
loop-goal-preserved g c =
    let Stays = StaysLive c.args.costs.now c.args.tables.now c.args.row.now (members c.args.s.now) in
    let same : c.deref-goal-items.result.now ≡ c.args.row.now.goals = c.deref-goal-items.ensures.value ∙ ap (λ (r : PlainLiveRow). r.goals) c.row.view_is in
    elim c.if-stays_live.branch [
      | then-stays_live+in_ok-push w ↦
          passed_next Stays c.args.row.now.goals c.deref-goal-items.result.now c.loop-goal.goals.items c.if-stays_live.goals.items c.loop-goal.goal-index (record { 0 = 0 }) same
          c.loop-goal-test.true c.loop-goal.invariant (c.stays_live.ensures.0 w.if-stays_live.true) (ap (λ x. x.items) w.goals-is ∙ w.in_ok-push.ensures.items)
      | else-stays_live w ↦
          passed_by Stays c.args.row.now.goals c.deref-goal-items.result.now c.loop-goal.goals.items c.if-stays_live.goals.items c.loop-goal.goal-index (record { 0 = 0 }) same
          c.loop-goal-test.true c.loop-goal.invariant (λ stays. false≢true (sym w.if-stays_live.false ∙ c.stays_live.ensures.1 stays)) (ap (λ x. x.items) w.goals-is)
    ]

pub returns : goal.returns
returns g c =
    let same : c.deref-goal-items.result.now ≡ c.args.row.now.goals = c.deref-goal-items.ensures.value ∙ ap (λ (r : PlainLiveRow). r.goals) c.row.view_is in
    let past : length c.args.row.now.goals ≤ c.loop-goal.goal-index = omega (arith, c.loop-goal-test.false, ap (λ (xs : List GoalId). length xs) same) in
    passed_all (StaysLive c.args.costs.now c.args.tables.now c.args.row.now (members c.args.s.now)) c.args.row.now.goals c.loop-goal.goals.items c.loop-goal.goal-index past c.loop-goal.invariant
    (λ h stays. stays.there)
