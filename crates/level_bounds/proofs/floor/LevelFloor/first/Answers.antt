use Rattle.std.proofs.Common.{◌↔◌, ◌⊎◌, List, Contains, ◌∙◌, sym, subst}
use Rattle.grd_base.specs.declared.ids.ActionId.{ActionId}
use Rattle.grd_base.specs.Bits.{members}
use Rattle.level_bounds.specs.Floors.{PlainFloor, IsFloorOf}
use Rattle.level_bounds.specs.Waves.{AreReady}
use Rattle.level_bounds.proofs.FilingLemmas.{IsNeeding}
use Rattle.level_bounds.proofs.WaveLemmas.{ready_start}
use Rattle.level_bounds.proofs.floor.LevelFloor.first.Goals as goal

pub returns-clause-ready : goal.returns-clause-ready
returns-clause-ready g c =
    let t = c.args.task.now in
    let floor = c.self.inside in
    let s = members c.args.s.now in
    let candidates = c.add_needing_state.new.candidates.items in
    let made = subst (IsFloorOf t) (sym c.self.view_is) c.requires.made in
    let found : (a : ActionId) → Contains candidates a ↔ (Contains floor.free.items a ⊎ IsNeeding floor.needed_by s a) =
    subst (λ (l : List ActionId). (a : ActionId) → Contains candidates a ↔ (Contains l a ⊎ IsNeeding floor.needed_by s a)) (c.in_ok-candidates.ensures.items ∙ c.as_slice.ensures.value) c.in_ok-add_needing_state.ensures in
    subst (λ (f : PlainFloor). AreReady t f.removed s candidates) c.self.view_is (ready_start t floor.removed s floor.free.items floor.needed_by made.filed candidates found)
