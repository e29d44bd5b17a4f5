use Rattle.std.proofs.Common.{◌∙◌}
use Rattle.design_certificate.proofs.LeafLemmas.{refute_tells}
use Rattle.design_certificate.proofs.leaf.refutes_cost.Goals as goal

pub returns-in-Some : goal.returns-in-Some
returns-in-Some c =
    refute_tells c.args.task.now c.args.costs.now c.args.goal c.in-Some.cost c.as_slice.result.now c.args.table.now c.has_start_row.result
    c.in-Some.ensures.some (c.as_slice.ensures.value ∙ c.table.view_is) c.has_start_row.ensures
