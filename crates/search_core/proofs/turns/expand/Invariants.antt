use Rattle.std.proofs.Common.{◌≡◌, ◌+◌, ◌++◌}
use Rattle.search_core.specs.Nodes.{AreHeldBy}
use Rattle.search_core.specs.Turns.{IsStep}
use Rattle.search_core.proofs.turns.expand.Given as goal

abbrev pub invariant-loop-step : goal.invariant-loop-step
invariant-loop-step g l = record {
  on : IsStep (g.S.Space.next l.fn.question.space.now) (g.S.Space.is_done l.fn.question.space.now) (g.S.Space.level l.fn.question.space.now) (g.F.Floor.shows l.fn.question.floor.now l.fn.question.space.now)
      l.fn.question.start l.fn.question.limit l.fn.reach.kept l.reach.kept l.fn.reach.found.entries l.reach.found.entries l.reach.queue l.fn.head.place l.fn.head.depth l.fn.state;
  held : AreHeldBy l.reach.found.entries (l.fn.head.depth + 1) l.yielded;
  whole : l.yielded ++ l.step-iterator.rest.items ≡ l.fn.steps.items;
}
