use Rattle.std.proofs.Common.{rules}
use Rattle.std.proofs.lemmas.List.Elements.{All-nil}
use Rattle.search_core.proofs.PlaceLemmas.{Contains-next, done_next}
use Rattle.search_core.proofs.TurnLemmas.{work_same, step_trans, held_next, step_of}
use Rattle.search_core.proofs.turns.expand.Goals as goal

pub loop-step-init : goal.loop-step-init
loop-step-init g c = record {
  on = work_same _ _ _ _ _ _ _ _ _ _ _ _ c.requires.at_work;
  held = All-nil _;
  whole = search rules;
}

pub visit-requires-clause-step : goal.visit-requires-clause-step
visit-requires-clause-step g c =
    step_of (g.S.Space.next c.args.question.now.space.now) c.args.state c.args.steps.items c.in-Some.step c.requires.steps (Contains-next _ _ _ _ _ c.loop-step.invariant.whole c.in-Some.ensures.steps.0)

pub loop-step-preserved : goal.loop-step-preserved
loop-step-preserved g c = record {
  on = step_trans _ _ _ _ _ _ _ _ _ _ _ _ _ _ _ _ _ c.loop-step.invariant.on c.in_ok-visit.ensures.on;
  held = held_next _ _ _ _ _ c.in_ok-visit.ensures.on.eased c.loop-step.invariant.held c.in_ok-visit.ensures.held;
  whole = done_next _ _ _ _ _ c.loop-step.invariant.whole c.in-Some.ensures.steps.0;
}
