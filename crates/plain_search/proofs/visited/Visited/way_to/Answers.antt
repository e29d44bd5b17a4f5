use Rattle.std.proofs.Common.{◌≡◌, ◌<◌, ◌++◌, reverse, sym, ◌∙◌, ap, arith, Some}
use Rattle.std.specs.Prelude.{slice_get}
use Rattle.plain_search.specs.Walks.{visits}
use Rattle.plain_search.proofs.WalkStateLemmas.{visit_at}
use Rattle.plain_search.proofs.WalkPlanLemmas.{way_back}
use Rattle.plain_search.proofs.visited.Visited.way_to.Goals as goal

pub loop-at-smaller : goal.loop-at-smaller
loop-at-smaller g c =
    let v = visit_at c.self.inside.steps.entries c.loop-at.at c.index-step.result.now c.index-step.ensures in
    let here : slice_get (visits c.args.self.now) c.loop-at.at ≡ Some v.0 = rw (← c.self.view_is) v.1 in
    rw (← v.2) (c.requires.ways.1.lower c.loop-at.at v.0 (omega arith) here)

pub loop-at-preserved : goal.loop-at-preserved
loop-at-preserved g c =
    let v = visit_at c.self.inside.steps.entries c.loop-at.at c.index-step.result.now c.index-step.ensures in
    let here : slice_get (visits c.args.self.now) c.loop-at.at ≡ Some v.0 = rw (← c.self.view_is) v.1 in
    let lower : c.index-step.result.now.parent < c.loop-at.at = rw (← v.2) (c.requires.ways.1.lower c.loop-at.at v.0 (omega arith) here) in
    record {
      within = omega arith;
      rest = λ path ways.
          way_back path (visits c.args.self.now) c.loop-at.at v.0 c.loop-at.way.items c.push.new.self.items _ _ _ ways (omega arith) here v.2 v.3
          c.in_ok-push.ensures.items (c.loop-at.invariant.rest path ways);
    }

pub returns-clause-way : goal.returns-clause-way
returns-clause-way g c = λ path ways.
    let at_start : c.loop-at.at ≡ 0 = omega arith in
    let back = reverse c.loop-at.way.items in
    c.reverse.ensures.items ∙ sym (c.loop-at.invariant.rest path ways ∙ ap (λ p. p ++ back) (ap path at_start ∙ ways.first))
