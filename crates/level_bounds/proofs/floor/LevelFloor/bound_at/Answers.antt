use Rattle.std.proofs.Common.{true, false, sym, ◌∙◌, ap, subst}
use Rattle.grd_base.specs.declared.limits.Bound.TheVariants.{Steps, Never}
use Rattle.grd_base.specs.Bits.{members}
use Rattle.level_bounds.specs.Waves.{AreReady}
use Rattle.level_bounds.proofs.RoundLaws.{told, no_rounds, one_more, rounds_never, rounds_level, level_meets}
use Rattle.level_bounds.proofs.floor.LevelFloor.bound_at.Goals as goal

pub loop-self-init : goal.loop-self-init
loop-self-init g c =
    let t = c.args.task.now in
    let f = c.args.self.now in
    let same = ap members c.in_ok-wave.ensures.reached in
    (no_rounds t f.goal f.removed _ _ same, subst (λ u. AreReady t f.removed u c.in_ok-wave.wave.candidates.items) (sym same) c.in_ok-wave.ensures.ready)

pub returns-then-not-branch-clause-level : goal.returns-then-not-branch-clause-level
returns-then-not-branch-clause-level g c =
    let u = members c.loop-self.wave.reached in
    let leaves_open = told c.args.task.now _ c.args.self.now u _ false c.self.view_is c.holds.ensures c.loop-self-test.true in
    let e = c.in_ok-advance.ensures in
    rounds_never _ _ _ _ u c.loop-self.rounds c.loop-self.invariant.0 leaves_open (sym e.round ∙ e.closed c.if-not-branch.true)

pub returns-then-not-branch-clause-steps : goal.returns-then-not-branch-clause-steps
returns-then-not-branch-clause-steps g c = level_meets _ _ _ _ Never (returns-then-not-branch-clause-level g c)

pub loop-self-preserved : goal.loop-self-preserved
loop-self-preserved g c =
    let u = members c.loop-self.wave.reached in
    let leaves_open = told c.args.task.now _ c.args.self.now u _ false c.self.view_is c.holds.ensures c.loop-self-test.true in
    let e = c.in_ok-advance.ensures in
    (one_more _ _ _ _ u _ c.loop-self.rounds c.loop-self.invariant.0 leaves_open e.round (e.more c.if-not-branch.false), e.ready)

pub returns-clause-steps : goal.returns-clause-steps
returns-clause-steps g c =
    let u = members c.loop-self.wave.reached in
    let holds = told c.args.task.now _ c.args.self.now u _ true c.self.view_is c.holds.ensures c.loop-self-test.false in
    level_meets _ _ _ _ (Steps c.loop-self.rounds) (rounds_level _ _ _ _ u c.loop-self.rounds c.loop-self.invariant.0 holds)
