use Rattle.std.proofs.Common.{◌≡◌, take}
use Rattle.std.specs.List.{filter_map}
use Rattle.optimal_search.specs.Space.{labelled_step}
use Rattle.optimal_search.proofs.space.TaskSpaceSpace.successors.Given as goal

abbrev pub invariant-loop-a : goal.invariant-loop-a
invariant-loop-a g l = l.steps.items ≡ filter_map (labelled_step l.self.task l.s) (take l.a-index l.a-items)
