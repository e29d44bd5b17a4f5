use Rattle.std.proofs.Common.{List, [], ◌∷◌, length, sym, ◌∙◌, ap, subst}
use Rattle.std.proofs.lemmas.List.{length-append}
use Rattle.grd_base.specs.declared.ids.ActionId.{ActionId}
use Rattle.grd_base.specs.declared.limits.Bound.TheVariants.{Never}
use Rattle.grd_base.specs.Bits.{members}
use Rattle.level_bounds.specs.Waves.{AreReady}
use Rattle.level_bounds.proofs.RoundLaws.{AreRounds, no_rounds, one_more, rounds_never}
use Rattle.cut_bounds.specs.CutMarks.{IsCutMark}
use Rattle.cut_bounds.proofs.RoundCuts.{AreCuts, no_cuts, one_more_cut, reached_has, closed_mark, still_open}
use Rattle.cut_bounds.proofs.rounds.level_mark.Goals as goal

pub loop-alloc-init : goal.loop-alloc-init
loop-alloc-init g c =
    let t = c.args.task.now in
    let f = c.args.level.now in
    let s = members c.args.s.now in
    let u = members c.in_ok-wave.wave.reached in
    let same = ap members c.in_ok-wave.ensures.reached in (
      subst (λ (l : List (List ActionId)). AreRounds t f.goal f.removed s u (length l)) (sym c.new-lists.ensures.items) (no_rounds t f.goal f.removed s u same),
      subst (λ v. AreReady t f.removed v c.in_ok-wave.wave.candidates.items) (sym same) c.in_ok-wave.ensures.ready,
      subst (λ (l : List (List ActionId)). AreCuts t f.goal f.removed s u l) (sym c.new-lists.ensures.items) (no_cuts t f.goal f.removed s u),
    )

pub returns-then-not-branch-clause-shows : goal.returns-then-not-branch-clause-shows
returns-then-not-branch-clause-shows g c =
    let t = c.args.task.now in
    let f = c.args.level.now in
    let s = members c.args.s.now in
    let u = members c.loop-alloc.wave.reached in
    let leaves_open = still_open t f.goal _ u _ c.goal.ensures c.holds.ensures c.loop-alloc-test.true in
    let e = c.in_ok-advance.ensures in
    subst (λ (l : List (List ActionId)). IsCutMark t f.goal f.removed s l Never) (sym c.in_ok-never.ensures)
    (closed_mark t f.goal f.removed s u (length c.loop-alloc.lists.items) c.loop-alloc.invariant.0 leaves_open (sym e.round ∙ e.closed c.if-not-branch.true))

pub returns-then-not-branch-clause-level : goal.returns-then-not-branch-clause-level
returns-then-not-branch-clause-level g c =
    let t = c.args.task.now in
    let f = c.args.level.now in
    let u = members c.loop-alloc.wave.reached in
    let leaves_open = still_open t f.goal _ u _ c.goal.ensures c.holds.ensures c.loop-alloc-test.true in
    let e = c.in_ok-advance.ensures in
    rounds_never t f.goal f.removed (members c.args.s.now) u (length c.loop-alloc.lists.items) c.loop-alloc.invariant.0 leaves_open (sym e.round ∙ e.closed c.if-not-branch.true)

pub loop-alloc-preserved : goal.loop-alloc-preserved
loop-alloc-preserved g c =
    let t = c.args.task.now in
    let f = c.args.level.now in
    let s = members c.args.s.now in
    let u = members c.loop-alloc.wave.reached in
    let v = members c.advance.new.wave.reached in
    let lists = c.loop-alloc.lists.items in
    let leaves_open = still_open t f.goal _ u _ c.goal.ensures c.holds.ensures c.loop-alloc-test.true in
    let e = c.in_ok-advance.ensures in
    let fewer = e.more c.if-not-branch.false in
    let list : List ActionId = c.in_ok-list.list in
    let rounds = c.loop-alloc.invariant.0 in (
      subst (λ n. AreRounds t f.goal f.removed s v n) (sym (ap length c.in_ok-push.ensures.items ∙ length-append lists (list ∷ [])))
          (one_more t f.goal f.removed s u v (length lists) rounds leaves_open e.round fewer),
      e.ready,
      subst (λ (l : List (List ActionId)). AreCuts t f.goal f.removed s v l) (sym c.in_ok-push.ensures.items)
          (one_more_cut t f.goal f.removed s u v lists list c.loop-alloc.invariant.2 (reached_has t f.goal f.removed s u (length lists) rounds) leaves_open c.in_ok-list.ensures e.round fewer),
    )
