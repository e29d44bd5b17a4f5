use Rattle.std.proofs.Common.{◌≡◌, take}
use Rattle.observation_compile.proofs.compile.actions.Given as goal

abbrev pub invariant-loop-action : goal.invariant-loop-action
invariant-loop-action l = l.actions.items ≡ take l.action-index l.task.actions
