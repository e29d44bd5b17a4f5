use Rattle.std.proofs.Common.{◌≡◌, map, take}
use Rattle.std.specs.Prelude.{All}
use Rattle.type_check.specs.Checks.{Passes}
use Rattle.type_check.specs.Rules.{schema_names}
use Rattle.type_check.specs.Tables.{checked_schema}
use Rattle.type_check.specs.Parts.{actions_rules}
use Rattle.type_check.proofs.actions.checked_actions.Given as goal

abbrev pub invariant-loop-action : goal.invariant-loop-action
invariant-loop-action l = record {
  names : l.names ≡ schema_names (take l.action-index l.actions);
  checked : l.checked.items ≡ map (checked_schema l.types) (take l.action-index l.actions);
  passed : All (Passes l.types) (actions_rules l.types (take l.action-index l.actions));
}
