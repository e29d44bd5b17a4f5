use Rattle.std.proofs.Common.{◌≡◌, map, take}
use Rattle.strips_model.specs.Observed.{read_as}
use Rattle.recognise.proofs.verdicts.read.Given as goal

abbrev pub invariant-loop-a : goal.invariant-loop-a
invariant-loop-a l = l.plan.items ≡ map (read_as l.task l.observations) (take l.a-index l.path)
