use Rattle.std.proofs.Common.{◌≡◌, true, List, Contains, Some, refl, sym, ◌∙◌, ap, subst}
use Rattle.std.specs.Prelude.{slice_get}
use Rattle.std.proofs.lemmas.Option.{slice_get_read}
use Rattle.grd_base.specs.declared.ids.AtomId.{AtomId}
use Rattle.strips_model.specs.Values.{GroundAction, PlainTask}
use Rattle.succ_table.proofs.TableLemmas.{filed_blocked, filed_apart, filed_listed}
use Rattle.succ_table.proofs.table.SuccTable.build.Goals as goal
use Rattle.succ_table.proofs.table.SuccTable.build.Goals.{then-not-action+in-Some+in_ok-add-in-Some, then-not-action+in-None+in_ok-push-in-None, else-not-action}

pub loop-i-preserved : goal.loop-i-preserved
loop-i-preserved c =
    let new : GroundAction = c.action-item.result in
    let read : slice_get c.deref-action-items.result.now c.loop-i.i ≡ Some new = slice_get_read c.deref-action-items.result.now _ c.loop-i.i new refl c.loop-i-test.true c.action-item.is in
    let is : slice_get c.args.task.now.actions c.loop-i.i ≡ Some new =
    ap (λ xs. slice_get xs c.loop-i.i) (sym (c.deref-action-items.ensures.value ∙ ap (λ (t : PlainTask). t.actions) c.task.view_is)) ∙ read in
    elim c.if-not-action.branch [
      | then-not-action+in-Some+in_ok-add-in-Some w ↦
          let pre = w.as_slice-then-not-action.ensures.value ∙ ap (λ (x : GroundAction). x.pre) c.action.view_is in
          rw (w.free-is, w.by_atom-is)
          (filed_listed _ _ _ _ _ new w.in-Some.atom c.loop-i.invariant is w.in_ok-add-in-Some.ensures.count
          w.in_ok-add-in-Some.ensures.last w.in_ok-add-in-Some.ensures.others (subst (λ (xs : List AtomId). Contains xs w.in-Some.atom) pre w.in-Some.ensures.among))
      | then-not-action+in-None+in_ok-push-in-None w ↦
          rw (w.free-is, w.by_atom-is, w.in_ok-push-in-None.ensures.items) (filed_apart _ _ _ _ new c.loop-i.invariant is)
      | else-not-action w ↦
          let blocked : new.blocked ≡ true = sym (ap (λ (x : GroundAction). x.blocked) c.action.view_is) ∙ w.if-not-action.false in
          rw (w.free-is, w.by_atom-is) (filed_blocked _ _ _ _ new c.loop-i.invariant is blocked)
    ]
