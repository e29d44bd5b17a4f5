use Rattle.ground_all.specs.Found.{instance_action}
use Rattle.ground_all.proofs.TaskLaws.{instances_next}
use Rattle.ground_all.proofs.tasks.instances.Goals as goal

pub loop-schema-preserved : goal.loop-schema-preserved
loop-schema-preserved c =
    instances_next (instance_action c.args.atoms.now) c.args.schemas.now c.loop-schema.schema-index c.schema-item.result
    c.loop-schema.actions.items c.add_instances.new.actions.items c.loop-schema-test.true c.schema-item.is c.loop-schema.invariant c.in_ok-add_instances.ensures
