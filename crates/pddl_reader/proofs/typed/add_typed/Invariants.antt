use Rattle.std.proofs.Common.{◌≡◌, ◌++◌}
use Rattle.pddl_reader.specs.Typed.{typed_by}
use Rattle.pddl_reader.proofs.typed.add_typed.Given as goal

abbrev pub invariant-loop-name : goal.invariant-loop-name
invariant-loop-name l = l.names.items ≡ l.initial.names.items ++ typed_by l.types l.yielded
