use Rattle.std.proofs.Common.{◌≡◌, ◌<◌, ℕ, List, length, get_or, refl, sym, ◌∙◌, ap, subst, Some, true, arith}
use Rattle.std.specs.Prelude.{slice_get, All}
use Rattle.std.proofs.lemmas.Option.{slice_get_read}
use Rattle.grd_base.specs.declared.ids.AtomId.{AtomId}
use Rattle.grd_base.specs.declared.ids.ActionId.{ActionId}
use Rattle.strips_model.specs.Values.{GroundAction, PlainTask, IsTask, IsActionBelow}
use Rattle.strips_model.specs.Plans.{set_of}
use Rattle.level_bounds.specs.Waves.{is_usable}
use Rattle.level_bounds.proofs.FilingLemmas.{AreListed, action_below, usable_from, unusable_removed, unusable_blocked}
use Rattle.cut_bounds.proofs.AdderLemmas.{adders_none, adders_in, adders_out, adders_all}
use Rattle.cut_bounds.proofs.floor.adders_of.Goals as goal
use Rattle.cut_bounds.proofs.floor.adders_of.Goals.{then-not-action+then-not-contains+in_ok-file, else-not-action, else-not-action-via-then-not-action+else-not-contains, else-not-action-via-else-not-action}

-- the action that the loop has come to is the task's
action_at : (t : PlainTask) (actions items : List GroundAction) (i : ℕ) (act : GroundAction) → items ≡ actions → actions ≡ t.actions → i < length items → act ≡ get_or items i act → slice_get t.actions i ≡ Some act
action_at t actions items i act same is within read = ap (λ (l : List GroundAction). slice_get l i) (sym (same ∙ is)) ∙ slice_get_read items (length items) i act refl within read

pub loop-i-init : goal.loop-i-init
loop-i-init c = adders_none c.args.task.now c.args.removed.now c.in_ok-adders.adders
    (c.in_ok-adders.ensures.count ∙ ap (λ (t : PlainTask). t.atoms) c.task.view_is) c.in_ok-adders.ensures.empty

pub loop-i-preserved : goal.loop-i-preserved
loop-i-preserved c =
    let t = c.args.task.now in
    let removed = c.args.removed.now in
    let i = c.loop-i.i in
    let lists = c.loop-i.adders in
    let act = c.action-item.result in
    let at : slice_get t.actions i ≡ Some act =
    action_at t c.task.inside.actions.items c.deref-action-items.result.now i act c.deref-action-items.ensures.value (ap (λ (x : PlainTask). x.actions) c.task.view_is) c.loop-i-test.true c.action-item.is in
    elim c.if-not-action.branch [
      | then-not-action+then-not-contains+in_ok-file w ↦
          let a : ActionId = record { 0 = i } in
          let add : w.as_slice.result.now ≡ act.add = w.as_slice.ensures.value ∙ ap (λ (x : GroundAction). x.add) c.action.view_is in
          let usable : is_usable t removed a ≡ true = usable_from t removed a act at (sym w.contains.ensures.test ∙ w.if-not-contains.true) (ap (λ (x : GroundAction). x.blocked) (sym c.action.view_is) ∙ w.if-not-action.true) in
          rw w.adders-is (adders_in t removed i lists c.loop-i.invariant act at usable w.file.new.needed_by w.in_ok-file.ensures.count
          (subst (λ (l : List AtomId). AreListed lists a (set_of l) w.file.new.needed_by) add w.in_ok-file.ensures.filed))
      | else-not-action w ↦ rw w.adders-is (adders_out t removed i lists c.loop-i.invariant (elim w.else-not-action.branch [
        | else-not-action-via-then-not-action+else-not-contains v ↦ unusable_removed t removed (record { 0 = i }) (sym v.contains.ensures.test ∙ v.if-not-contains.false)
        | else-not-action-via-else-not-action v ↦ unusable_blocked t removed (record { 0 = i }) act at (ap (λ (x : GroundAction). x.blocked) (sym c.action.view_is) ∙ v.if-not-action.false)
      ]))
    ]

pub file-requires : goal.file-requires
file-requires c =
    let t = c.args.task.now in
    let act = c.action-item.result in
    let at : slice_get t.actions c.loop-i.i ≡ Some act =
    action_at t c.task.inside.actions.items c.deref-action-items.result.now c.loop-i.i act c.deref-action-items.ensures.value (ap (λ (x : PlainTask). x.actions) c.task.view_is) c.loop-i-test.true c.action-item.is in
    let is : IsTask t = subst IsTask c.task.view_is c.task.invariant in
    let below : IsActionBelow t.atoms act = action_below t is (record { 0 = c.loop-i.i }) act at in
    let pre : act.add ≡ c.as_slice.result.now = ap (λ (x : GroundAction). x.add) (sym c.action.view_is) ∙ sym c.as_slice.ensures.value in
    record { atoms = subst (λ (l : List AtomId). All (λ p. p.0 < length c.loop-i.adders) l) pre (subst (λ (n : ℕ). All (λ p. p.0 < n) act.add) (sym c.loop-i.invariant.atoms) below.add.below) }

pub returns : goal.returns
returns c =
    adders_all c.args.task.now c.args.removed.now c.loop-i.i c.loop-i.adders
    (omega (arith, c.loop-i-test.false, ap (λ (l : List GroundAction). length l) c.deref-action-items.ensures.value, ap (λ (x : PlainTask). length x.actions) c.task.view_is)) c.loop-i.invariant
