use Rattle.std.proofs.Common.{◌≡◌, ◌<◌, Some, length}
use Rattle.type_check.specs.Chains.{climb}
use Rattle.type_check.proofs.ChainLaws.{IsClear}
use Rattle.type_check.proofs.chains.meets.Given as goal

abbrev pub invariant-loop : goal.invariant-loop
invariant-loop l = (l.at < length l.parents) × (climb l.parents l.counter l.from ≡ Some l.at) × IsClear l.parents l.marks l.from l.counter
