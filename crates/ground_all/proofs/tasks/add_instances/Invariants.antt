use Rattle.std.proofs.Common.{◌≡◌, ◌++◌, length, map, take}
use Rattle.ground_all.specs.Tuples.{tuples}
use Rattle.ground_all.specs.Found.{schema_action}
use Rattle.ground_all.proofs.tasks.add_instances.Given as goal

abbrev pub invariant-loop-number : goal.invariant-loop-number
invariant-loop-number l = record {
  room : length l.objects.items ≡ length l.schema.places;
  made : l.actions.items ≡ l.fn.actions.items ++ map (schema_action l.atoms l.schema) (take l.number (tuples l.schema.places));
}
