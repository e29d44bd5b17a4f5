use Rattle.std.proofs.Common.{take}
use Rattle.type_check.specs.Chains.{AreMarks}
use Rattle.type_check.proofs.types.Types.marks.Given as goal

abbrev pub invariant-loop-name : goal.invariant-loop-name
invariant-loop-name l = AreMarks l.self (take l.name-index l.names) l.marks.items
