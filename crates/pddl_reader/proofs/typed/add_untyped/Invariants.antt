use Rattle.std.proofs.Common.{◌≡◌, ◌++◌, map}
use Rattle.pddl_reader.specs.Typed.{untyped}
use Rattle.pddl_reader.proofs.typed.add_untyped.Given as goal

abbrev pub invariant-loop-name : goal.invariant-loop-name
invariant-loop-name l = l.names.items ≡ l.initial.names.items ++ map untyped l.yielded
