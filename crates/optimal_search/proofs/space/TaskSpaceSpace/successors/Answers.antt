use Rattle.std.proofs.Common.{rules, ◌≡◌, List, get_or, arith, subst, Some}
use Rattle.grd_base.specs.declared.bits.Bits.{Bits}
use Rattle.grd_base.specs.declared.ids.ActionId.{ActionId}
use Rattle.grd_base.specs.Bits.{members}
use Rattle.strips_model.specs.Values.{PlainTask}
use Rattle.strips_model.specs.Plans.{State, step}
use Rattle.succ_table.specs.Applicable.{applicable_of}
use Rattle.optimal_search.specs.Space.{PlainSpace, labelled_step, task_in}
use Rattle.optimal_search.proofs.StepLaws.{all_steps, found_are, found_good, filter_map_more_some, labelled_some}
use Rattle.optimal_search.proofs.space.TaskSpaceSpace.successors.Goals as goal

pub loop-a-init : goal.loop-a-init
loop-a-init g c = c.in_ok-steps.ensures.items

pub apply_in-requires : goal.apply_in-requires
apply_in-requires g c =
    let space = c.self.inside in
    let found : List ActionId = c.deref-a-items.result.now in
    let are : found ≡ applicable_of space.task.now space.removed.now (members c.args.s.now) =
    found_are space.task.now (task_in space.actions) space.removed.now c.in_ok-found.found.items found (members c.args.s.now) c.deref-a-items.ensures.value c.in_ok-found.ensures c.self.invariant.table_of in
    let good = found_good space.task.now space.removed.now found (members c.args.s.now) c.loop-a.a-index (record { 0 = 0 }) are c.loop-a-test.true in
    (search rules, (c.self.invariant.width, (c.self.invariant.atoms, good)))

pub loop-a-preserved : goal.loop-a-preserved
loop-a-preserved g c =
    let t : PlainTask = c.args.self.now.task in
    let s : Bits g.row.W = c.args.s.now in
    let found : List ActionId = c.deref-a-items.result.now in
    let none : ActionId = record { 0 = 0 } in
    let next : Bits g.row.W = c.apply_in.new.s in
    let a : ActionId = get_or found c.loop-a.a-index none in
    let made : step t (members s) a ≡ Some (members next) = subst (λ (x : PlainSpace). step x.task (members s) a ≡ Some (members next)) c.self.view_is c.apply_in.ensures in
    filter_map_more_some (labelled_step t s) found c.loop-a.a-index none c.loop-a-test.true c.loop-a.steps.items c.push.new.self.items (a, next) c.loop-a.invariant
    (labelled_some t s next a made (c.packed.ensures.again next c.whole.ensures)) c.in_ok-push.ensures.items

pub returns : goal.returns
returns g c =
    let t : PlainTask = c.args.self.now.task in
    let space = c.self.inside in
    let found : List ActionId = c.deref-a-items.result.now in
    let s : State = members c.args.s.now in
    let inside : found ≡ applicable_of space.task.now space.removed.now s =
    found_are space.task.now (task_in space.actions) space.removed.now c.in_ok-found.found.items found s c.deref-a-items.ensures.value c.in_ok-found.ensures c.self.invariant.table_of in
    let are : found ≡ applicable_of t c.args.self.now.removed s = subst (λ (x : PlainSpace). found ≡ applicable_of x.task x.removed s) c.self.view_is inside in
    all_steps t c.args.self.now.removed found c.args.s.now c.loop-a.a-index c.loop-a.steps.items c.loop-a.invariant (omega arith) are
