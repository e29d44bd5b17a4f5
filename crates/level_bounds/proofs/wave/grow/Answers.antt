use Rattle.std.proofs.Common.{◌≡◌, ◌<◌, List, length, take, get_or, refl, sym, ◌∙◌, ap, subst, Some}
use Rattle.std.specs.Prelude.{slice_get, All}
use Rattle.std.proofs.lemmas.Option.{slice_get_read}
use Rattle.grd_base.specs.declared.ids.ActionId.{ActionId}
use Rattle.grd_base.specs.Bits.{members}
use Rattle.strips_model.specs.Values.{GroundAction, PlainTask, IsTask}
use Rattle.level_bounds.proofs.WaveLemmas.{growth_none, growth_in, growth_out, growth_all, fresh_below}
use Rattle.level_bounds.proofs.wave.grow.Goals as goal
use Rattle.level_bounds.proofs.wave.grow.Goals.{then-applies+in_ok-join_in, else-applies}

pub loop-a-init : goal.loop-a-init
loop-a-init g c = rw c.new.ensures.items (growth_none c.args.task.now (members c.args.wave.now.reached) (members c.args.wave.now.reached) refl)

pub loop-a-preserved : goal.loop-a-preserved
loop-a-preserved g c =
    let t = c.args.task.now in
    let u = members c.args.wave.now.reached in
    let v = members c.loop-a.growth.reached in
    let candidates = c.deref-a-items.result.now in
    let fresh = c.loop-a.growth.fresh.items in
    let i = c.loop-a.a-index in
    let a : ActionId = get_or candidates i (record { 0 = 0 }) in
    let all : All (λ b. b.0 < length t.actions) candidates = subst (λ (l : List ActionId). All (λ b. b.0 < length t.actions) l) (sym c.deref-a-items.ensures.value) c.requires.actions in
    let within : a.0 < length t.actions = all i (record { 0 = 0 }) c.loop-a-test.true in
    elim c.if-applies.branch [
      | then-applies+in_ok-join_in w ↦
          let act : GroundAction = w.index.result.now in
          let at : slice_get t.actions a.0 ≡ Some act =
          ap (λ (x : PlainTask). slice_get x.actions a.0) (sym c.task.view_is)
          ∙ slice_get_read c.task.inside.actions.items (length t.actions) a.0 act (ap (λ (x : PlainTask). length x.actions) (sym c.task.view_is)) within w.index.ensures in
          let adds : w.as_slice.result.now ≡ act.add = w.as_slice.ensures.value ∙ ap (λ (x : GroundAction). x.add) w.behind-task.view_is in
          rw w.growth-is (growth_in t u candidates i (record { 0 = 0 }) c.loop-a-test.true v fresh c.loop-a.invariant act at (sym c.applies.ensures ∙ w.if-applies.true)
          w.as_slice.result.now adds (members w.join_in.new.growth.reached) w.join_in.new.growth.fresh.items w.in_ok-join_in.ensures.reached w.in_ok-join_in.ensures.fresh)
      | else-applies w ↦ rw w.growth-is (growth_out t u candidates i (record { 0 = 0 }) c.loop-a-test.true v fresh c.loop-a.invariant (sym c.applies.ensures ∙ w.if-applies.false))
    ]

pub returns-clause-growth : goal.returns-clause-growth
returns-clause-growth g c =
    let u = members c.args.wave.now.reached in
    let v = members c.loop-a.growth.reached in
    rw (← c.deref-a-items.ensures.value) (growth_all c.args.task.now u v c.deref-a-items.result.now c.loop-a.growth.fresh.items c.loop-a.a-index c.loop-a-test.false c.loop-a.invariant)

pub returns-clause-below : goal.returns-clause-below
returns-clause-below g c =
    let t = c.args.task.now in
    let u = members c.args.wave.now.reached in
    let v = members c.loop-a.growth.reached in
    fresh_below t u (take c.loop-a.a-index c.deref-a-items.result.now) v c.loop-a.growth.fresh.items c.loop-a.invariant (subst IsTask c.task.view_is c.task.invariant)
