use Rattle.std.proofs.Common.{◌≡◌, ◌↔◌, ◌<◌, ℕ, List, ◌++◌, length, Contains, sym, ◌∙◌, ap, subst, arith, rules, vec_len}
use Rattle.std.specs.Prelude.{All, filter}
use Rattle.std.proofs.lemmas.List.{nil_from_length}
use Rattle.std.proofs.lemmas.Bool.{eqb-true, eqb-false, not-true, not-false}
use Rattle.grd_base.specs.declared.ids.AtomId.{AtomId}
use Rattle.grd_base.specs.declared.ids.ActionId.{ActionId}
use Rattle.grd_base.specs.Bits.{members}
use Rattle.strips_model.specs.Values.{PlainTask}
use Rattle.strips_model.specs.Plans.{State, set_of}
use Rattle.level_bounds.specs.Floors.{PlainFloor, IsFloorOf}
use Rattle.level_bounds.specs.Waves.{AreReady, is_other}
use Rattle.level_bounds.proofs.AroundLemmas.{ready_around}
use Rattle.level_bounds.proofs.FilingLemmas.{IsNeeding}
use Rattle.level_bounds.proofs.WaveLemmas.{candidates_below, round_is_grown, fewer_missing, same_without_fresh}
use Rattle.level_bounds.proofs.floor.LevelFloor.advance_around.Goals as goal

-- what is ready for the floor as callers see it is ready for what is in it
ready_inside : (t : PlainTask) (list : List ActionId) (inside seen : PlainFloor) (u : State) (candidates : List ActionId) → inside ≡ seen → AreReady t (list ++ seen.removed) u candidates → AreReady t (list ++ inside.removed) u candidates
ready_inside t list inside seen u candidates is ready = subst (λ (f : PlainFloor). AreReady t (list ++ f.removed) u candidates) (sym is) ready

pub grow-requires : goal.grow-requires
grow-requires g c =
    let t = c.args.task.now in
    let candidates = c.args.wave.now.candidates.items in
    (search rules, (search rules, (c.requires.width, (c.requires.atoms, candidates_below t (c.args.list.now ++ c.args.self.now.removed) (members c.args.wave.now.reached) candidates c.requires.ready))))

pub needing-requires : goal.needing-requires
needing-requires g c =
    let t = c.args.task.now in
    let floor = c.self.inside in
    record {
      atoms = subst (λ (l : List AtomId). All (λ p. p.0 < length floor.needed_by) l) (sym c.as_slice.ensures.value)
          (subst (λ (n : ℕ). All (λ p. p.0 < n) c.in_ok-growth.growth.fresh.items) (sym (subst (IsFloorOf t) (sym c.self.view_is) c.requires.made).filed.atoms) c.in_ok-growth.ensures.below);
    }

pub returns-clause-round : goal.returns-clause-round
returns-clause-round g c =
    let t = c.args.task.now in
    let u = members c.args.wave.now.reached in
    let v = members c.in_ok-growth.growth.reached in
    let candidates = c.args.wave.now.candidates.items in
    round_is_grown t (c.args.list.now ++ c.args.self.now.removed) u candidates c.requires.ready v c.in_ok-growth.growth.fresh.items c.in_ok-growth.ensures.growth

pub returns-clause-ready : goal.returns-clause-ready
returns-clause-ready g c =
    let t = c.args.task.now in
    let floor = c.self.inside in
    let list : List ActionId = c.args.list.now in
    let u = members c.args.wave.now.reached in
    let v = members c.in_ok-growth.growth.reached in
    let candidates = c.args.wave.now.candidates.items in
    let fresh = c.in_ok-growth.growth.fresh.items in
    let needing = c.in_ok-needing.needing.items in
    let next = c.in_ok-wave.field-0.items in
    let ready : AreReady t (list ++ floor.removed) u candidates = ready_inside t list _ c.args.self.now u candidates c.self.view_is c.requires.ready in
    let found : (a : ActionId) → Contains needing a ↔ IsNeeding floor.needed_by (set_of fresh) a =
    subst (λ (l : List AtomId). (a : ActionId) → Contains needing a ↔ IsNeeding floor.needed_by (set_of l) a) c.as_slice.ensures.value c.in_ok-needing.ensures in
    let is : next ≡ filter (is_other list) needing = c.in_ok-wave.ensures ∙ ap (filter (is_other list)) c.as_slice-2.ensures.value in
    subst (λ (f : PlainFloor). AreReady t (list ++ f.removed) v next) c.self.view_is
    (ready_around t floor.removed list u candidates ready v fresh c.in_ok-growth.ensures.growth floor.free.items floor.needed_by (subst (IsFloorOf t) (sym c.self.view_is) c.requires.made).filed needing next found is)

pub returns-clause-more : goal.returns-clause-more
returns-clause-more g c more =
    let t = c.args.task.now in
    let floor = c.self.inside in
    let u = members c.args.wave.now.reached in
    let v = members c.in_ok-growth.growth.reached in
    let fresh = c.in_ok-growth.growth.fresh.items in
    let long : length fresh ≡ vec_len c.in_ok-growth.growth.fresh = ap length (sym c.as_slice.ensures.value) ∙ c.as_slice.ensures.len in
    let some : vec_len c.in_ok-growth.growth.fresh ≡ 0 → ⊥ = eqb-false _ 0 (sym c.is_empty-more.ensures ∙ not-true _ more) in
    fewer_missing c.args.task.now u c.args.wave.now.candidates.items v fresh c.in_ok-growth.ensures.growth c.in_ok-growth.ensures.below (omega arith)

pub returns-clause-closed : goal.returns-clause-closed
returns-clause-closed g c closed =
    let u = members c.args.wave.now.reached in
    let v = members c.in_ok-growth.growth.reached in
    let fresh = c.in_ok-growth.growth.fresh.items in
    let long : length fresh ≡ vec_len c.in_ok-growth.growth.fresh = ap length (sym c.as_slice.ensures.value) ∙ c.as_slice.ensures.len in
    let none : vec_len c.in_ok-growth.growth.fresh ≡ 0 = eqb-true _ 0 (sym c.is_empty-more.ensures ∙ not-false _ closed) in
    same_without_fresh c.args.task.now u c.args.wave.now.candidates.items v fresh c.in_ok-growth.ensures.growth (nil_from_length fresh (long ∙ none))
