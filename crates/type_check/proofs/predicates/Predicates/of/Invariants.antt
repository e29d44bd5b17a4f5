use Rattle.std.proofs.Common.{◌≡◌, take}
use Rattle.std.specs.Prelude.{All}
use Rattle.type_check.specs.Checks.{Passes}
use Rattle.type_check.specs.Rules.{predicate_names}
use Rattle.type_check.specs.Parts.{predicates_rules}
use Rattle.type_check.proofs.predicates.Predicates.of.Given as goal

abbrev pub invariant-loop-predicate : goal.invariant-loop-predicate
invariant-loop-predicate l = record {
  names : l.names ≡ predicate_names (take l.predicate-index l.predicates);
  passed : All (Passes l.types) (predicates_rules l.types (take l.predicate-index l.predicates));
}
