use Rattle.std.proofs.Common.{◌≡◌, refl, sym, ◌∙◌, ap, subst}
use Rattle.std.specs.Prelude.{All}
use Rattle.std.proofs.lemmas.Bool.{false≢true}
use Rattle.std.proofs.lemmas.List.{take_all}
use Rattle.grd_base.specs.declared.ids.ActionId.{ActionId}
use Rattle.grd_base.specs.Bits.{members}
use Rattle.strips_model.specs.Plans.{State, set_of}
use Rattle.design_certificate.specs.Live.{PlainLiveRow, IsFollowed}
use Rattle.design_certificate.specs.Followers.{live_of}
use Rattle.design_certificate.specs.LiveFaults.{IsFollowedOn}
use Rattle.design_certificate.proofs.FollowLemmas.{HasStep, all_steps}
use Rattle.design_certificate.proofs.LoopLemmas.{all_next}
use Rattle.design_certificate.proofs.rows.is_followed_on.Goals as goal

pub returns-then-not-branch : goal.returns-then-not-branch
unfolding IsFollowedOn
returns-then-not-branch g c =
    let same : members c.state_of-s.result ≡ set_of c.args.row.now.state = c.state_of-s.ensures ∙ ap set_of (c.as_slice.ensures.value ∙ ap (λ (r : PlainLiveRow). r.state) c.row.view_is) in
    let Q = IsFollowed c.args.followers.now.costs.now c.args.followers.now.length (live_of c.args.followers.now) c.args.row.now in (
      λ never. absurd (false≢true never),
      λ all. sym c.if-not-branch.true ∙ c.in_ok-step_followed.ensures.1 (subst (λ s. (a : ActionId) → HasStep c.args.moves.now.task c.args.moves.now.removed Q s a) (sym same) all _),
    )

pub loop-a-preserved : goal.loop-a-preserved
loop-a-preserved g c =
    let Q = IsFollowed c.args.followers.now.costs.now c.args.followers.now.length (live_of c.args.followers.now) c.args.row.now in
    all_next (HasStep c.args.moves.now.task c.args.moves.now.removed Q (members c.state_of-s.result)) c.allowed-allowed.result.now c.loop-a.a-index (record { 0 = 0 }) c.loop-a-test.true c.loop-a.invariant
    (c.in_ok-step_followed.ensures.0 c.if-not-branch.false)

pub returns : goal.returns
unfolding IsFollowedOn
returns g c =
    let same : members c.state_of-s.result ≡ set_of c.args.row.now.state = c.state_of-s.ensures ∙ ap set_of (c.as_slice.ensures.value ∙ ap (λ (r : PlainLiveRow). r.state) c.row.view_is) in
    let Q = IsFollowed c.args.followers.now.costs.now c.args.followers.now.length (live_of c.args.followers.now) c.args.row.now in
    let Has : State → ActionId → Type 0 = HasStep c.args.moves.now.task c.args.moves.now.removed Q in (
      λ always. subst (λ s. (a : ActionId) → Has s a) same (all_steps c.args.moves.now.task c.args.moves.now.removed Q (members c.state_of-s.result)
          (subst (All (Has (members c.state_of-s.result))) (take_all c.loop-a.a-index c.allowed-allowed.result.now c.loop-a-test.false ∙ c.allowed-allowed.ensures) c.loop-a.invariant)),
      λ all. refl,
    )
