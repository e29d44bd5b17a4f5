-- Rounds until none leads on reach what is reached in the end.
use Rattle.std.proofs.Common.{◌++◌, List, sym, ◌∙◌, ap, subst}
use Rattle.std.specs.Prelude.{filter}
use Rattle.grd_base.specs.declared.ids.ActionId.{ActionId}
use Rattle.grd_base.specs.Bits.{members}
use Rattle.strips_model.specs.Plans.{State}
use Rattle.level_bounds.specs.Waves.{AreReady, is_other}
use Rattle.level_bounds.proofs.AroundLemmas.{ready_others, rounds_none, rounds_one, reached_end}
use Rattle.level_bounds.proofs.floor.LevelFloor.reached_around.Goals as goal

pub loop-wave-init : goal.loop-wave-init
loop-wave-init g c =
    let t = c.args.task.now in
    let removed : List ActionId = c.args.self.now.removed in
    let list : List ActionId = c.args.list.now in
    let first = c.in_ok-wave.wave in
    let same = ap members c.in_ok-wave.ensures.reached in
    let ready = subst (λ (u : State). AreReady t removed u first.candidates.items) (sym same) c.in_ok-wave.ensures.ready in (
      rounds_none t (list ++ removed) (members c.args.s.now) (members first.reached) same,
      ready_others t removed list (members first.reached) first.candidates.items c.in_ok-wave-2.field-0.items ready (c.in_ok-wave-2.ensures ∙ ap (filter (is_other list)) c.as_slice.ensures.value),
    )

pub loop-wave-preserved : goal.loop-wave-preserved
loop-wave-preserved g c =
    let e = c.in_ok-advance_around.ensures in
    (rounds_one c.args.task.now (c.args.list.now ++ c.args.self.now.removed) (members c.args.s.now) (members c.loop-wave.wave.reached) (members c.advance_around.new.wave.reached) c.loop-wave.invariant.0 e.round, e.ready)

pub returns : goal.returns
returns g c =
    let t = c.args.task.now in
    let removed : List ActionId = c.args.list.now ++ c.args.self.now.removed in
    let s = members c.args.s.now in
    let u = members c.loop-wave.wave.reached in
    let e = c.in_ok-advance_around.ensures in
    let still = e.closed c.if-branch.false in
    still ∙ reached_end t c.known_task.ensures removed s u c.loop-wave.invariant.0.0 c.loop-wave.invariant.0.1 (sym e.round ∙ still)
