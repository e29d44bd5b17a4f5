use Rattle.std.proofs.Common.{◌*◌, List, [], ◌∷◌, map, true, false, sym, ◌∙◌, ap, subst, Vec, Global}
use Rattle.std.specs.Prelude.{All}
use Rattle.std.proofs.lemmas.List.{map-append}
use Rattle.grd_base.specs.declared.ids.AtomId.{AtomId}
use Rattle.grd_base.specs.Bits.{members}
use Rattle.strips_model.specs.Values.{AreAtoms, IsTask}
use Rattle.strips_model.specs.Cuts.{IsFamily}
use Rattle.level_bounds.specs.Floors.{ShowsLevel}
use Rattle.level_bounds.specs.Waves.{AreReady}
use Rattle.level_bounds.proofs.RoundLaws.{AreSets, told, no_sets, one_more_set, sets_family, sets_show, sets_below, last_family, last_shows, last_below}
use Rattle.level_bounds.proofs.floor.LevelFloor.family_at.Goals as goal

abbrev items_of : Vec AtomId Global → List AtomId
items_of set = set.items

abbrev lists : List (Vec AtomId Global) → List (List AtomId)
lists sets = map items_of sets

pub loop-self-init : goal.loop-self-init
loop-self-init g c =
    let t = c.args.task.now in
    let f = c.args.self.now in
    let same = ap members c.in_ok-wave.ensures.reached in (
      subst (λ sets. AreSets t f.goal f.removed (members c.args.s.now) (members c.in_ok-wave.wave.reached) (64 * g.row.W) (lists sets)) (sym c.new-sets.ensures.items)
          (no_sets t f.goal f.removed (members c.args.s.now) (64 * g.row.W) (members c.in_ok-wave.wave.reached) same),
      subst (λ u. AreReady t f.removed u c.in_ok-wave.wave.candidates.items) (sym same) c.in_ok-wave.ensures.ready,
    )

pub returns-then-not-branch-clause-family : goal.returns-then-not-branch-clause-family
returns-then-not-branch-clause-family g c =
    let t = c.args.task.now in
    let f = c.args.self.now in
    let leaves_open = told t _ f (members c.loop-self.wave.reached) _ false c.self.view_is c.holds.ensures c.loop-self-test.true in
    let e = c.in_ok-advance.ensures in
    subst (λ sets. IsFamily t f.goal f.removed (members c.args.s.now) (lists sets)) (sym c.in_ok-vec.ensures.items)
    (last_family _ _ _ _ _ _ _ c.in_ok-set.set.items c.loop-self.invariant.0 leaves_open c.in_ok-set.ensures.same (sym e.round ∙ e.closed c.if-not-branch.true))

pub returns-then-not-branch-clause-level : goal.returns-then-not-branch-clause-level
returns-then-not-branch-clause-level g c =
    let t = c.args.task.now in
    let f = c.args.self.now in
    let leaves_open = told t _ f (members c.loop-self.wave.reached) _ false c.self.view_is c.holds.ensures c.loop-self-test.true in
    let e = c.in_ok-advance.ensures in
    subst (λ sets. ShowsLevel t f.goal f.removed (members c.args.s.now) (lists sets)) (sym c.in_ok-vec.ensures.items)
    (last_shows _ _ _ _ _ _ _ c.in_ok-set.set.items c.loop-self.invariant.0 leaves_open c.in_ok-set.ensures.same (sym e.round ∙ e.closed c.if-not-branch.true))

pub returns-then-not-branch-clause-atoms : goal.returns-then-not-branch-clause-atoms
returns-then-not-branch-clause-atoms g c over =
    let t = c.args.task.now in
    let f = c.args.self.now in
    let task : IsTask t = c.known_task.ensures in
    subst (λ sets. All (AreAtoms t.atoms) (lists sets)) (sym c.in_ok-vec.ensures.items)
    (last_below _ _ _ _ _ task _ _ c.in_ok-set.set.items c.loop-self.invariant.0 c.in_ok-set.ensures.same c.in_ok-set.ensures.atoms over)

pub loop-self-preserved : goal.loop-self-preserved
loop-self-preserved g c =
    let t = c.args.task.now in
    let f = c.args.self.now in
    let leaves_open = told t _ f (members c.loop-self.wave.reached) _ false c.self.view_is c.holds.ensures c.loop-self-test.true in
    let e = c.in_ok-advance.ensures in
    let longer = ap lists c.in_ok-push.ensures.items ∙ map-append items_of c.loop-self.sets.items (c.in_ok-set.set ∷ []) in (
      subst (λ sets. AreSets t f.goal f.removed (members c.args.s.now) (members c.advance.new.wave.reached) (64 * g.row.W) sets) (sym longer)
          (one_more_set _ _ _ _ _ _ _ _ c.in_ok-set.set.items c.loop-self.invariant.0 leaves_open c.in_ok-set.ensures.same c.in_ok-set.ensures.atoms e.round (e.more c.if-not-branch.false)),
      e.ready,
    )

pub returns-clause-family : goal.returns-clause-family
returns-clause-family g c =
    sets_family _ _ _ _ _ _ _ c.loop-self.invariant.0 (told c.args.task.now _ c.args.self.now (members c.loop-self.wave.reached) _ true c.self.view_is c.holds.ensures c.loop-self-test.false)

pub returns-clause-level : goal.returns-clause-level
returns-clause-level g c =
    sets_show _ _ _ _ _ _ _ c.loop-self.invariant.0 (told c.args.task.now _ c.args.self.now (members c.loop-self.wave.reached) _ true c.self.view_is c.holds.ensures c.loop-self-test.false)

pub returns-clause-atoms : goal.returns-clause-atoms
returns-clause-atoms g c over =
    let task : IsTask c.args.task.now = c.known_task.ensures in
    sets_below _ _ _ _ _ _ _ c.loop-self.invariant.0 task over
