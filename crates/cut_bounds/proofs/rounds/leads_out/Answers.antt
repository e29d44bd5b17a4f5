use Rattle.std.proofs.Common.{◌≡◌, Bool, true, false, not, ◌&&◌, length, sym, ◌∙◌, ap, subst, Option, Some}
use Rattle.std.specs.Prelude.{slice_get}
use Rattle.std.specs.Option.{option_map_or}
use Rattle.std.proofs.lemmas.Option.{slice_get_read}
use Rattle.grd_base.specs.declared.ids.ActionId.{ActionId}
use Rattle.grd_base.specs.Bits.{members}
use Rattle.strips_model.specs.Values.{GroundAction, PlainTask}
use Rattle.strips_model.specs.Plans.{State, has_all, can_apply, is_step}
use Rattle.strips_model.specs.Cuts.{leads_out}
use Rattle.cut_bounds.proofs.rounds.leads_out.Goals as goal

-- an action that applies leads out where not all that it adds is in the set
adds_out : (t : PlainTask) (u : State) (a : ActionId) (act : GroundAction) (all : Bool) → slice_get t.actions a.0 ≡ Some act → is_step t u a ≡ true
    → all ≡ has_all u act.add → not all ≡ option_map_or (leads_out u) (slice_get t.actions a.0) false
unfolding is_step
adds_out t u a act all at applies is =
    let Applies : Option GroundAction → Type 0 = λ o. option_map_or (λ x. can_apply x u) o false ≡ true in
    let Out : Option GroundAction → Type 0 = λ o. not all ≡ option_map_or (leads_out u) o false in
    let can : can_apply act u ≡ true = subst Applies at applies in
    subst Out (sym at) (ap not is ∙ ap (λ b. b && not (has_all u act.add)) (sym can))

pub returns-then-applies : goal.returns-then-applies
returns-then-applies g c =
    let t = c.args.task.now in
    let act : GroundAction = c.index-action.result.now in
    let at : slice_get t.actions c.args.a.0 ≡ Some act =
    ap (λ (x : PlainTask). slice_get x.actions c.args.a.0) (sym c.task.view_is)
    ∙ slice_get_read c.task.inside.actions.items (length t.actions) c.args.a.0 act (ap (λ (x : PlainTask). length x.actions) (sym c.task.view_is)) c.requires.action c.index-action.ensures in
    let adds = ap (has_all (members c.args.set.now)) (c.as_slice.ensures.value ∙ ap (λ (x : GroundAction). x.add) c.action.view_is) in
    adds_out t (members c.args.set.now) c.args.a act c.contains_all.result at (sym c.applies.ensures ∙ c.if-applies.true) (c.contains_all.ensures ∙ adds)
