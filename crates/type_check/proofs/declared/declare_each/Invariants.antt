use Rattle.std.proofs.Common.{◌≡◌, ◌++◌, take}
use Rattle.std.specs.Prelude.{All}
use Rattle.type_check.specs.Checks.{Passes}
use Rattle.type_check.specs.Types.{names_of}
use Rattle.type_check.specs.Parts.{names_rules}
use Rattle.type_check.proofs.declared.declare_each.Given as goal

abbrev pub invariant-loop-declared : goal.invariant-loop-declared
invariant-loop-declared l = record {
  names : l.names ≡ l.fn.names ++ names_of (take l.declared-index l.list);
  passed : All (Passes l.types) (names_rules l.file l.types l.fn.names (take l.declared-index l.list));
}
