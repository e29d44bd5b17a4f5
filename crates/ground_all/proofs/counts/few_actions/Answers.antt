use Rattle.std.proofs.Common.{ap, ◌∙◌, arith}
use Rattle.std.specs.List.{sum}
use Rattle.ground_all.proofs.BlockLaws.{few_all_names}
use Rattle.ground_all.proofs.GroundCounts.{actions_counted}
use Rattle.ground_all.proofs.counts.few_actions.Goals as goal

pub total-actions-requires : goal.total-actions-requires
total-actions-requires c = omega (arith, few_all_names c.args.typed.now c.requires.sound, ap sum (c.deref.ensures.value ∙ c.in_ok-counts.ensures))

pub returns-then-actions-gt-MOST_ACTIONS-clause-fault : goal.returns-then-actions-gt-MOST_ACTIONS-clause-fault
returns-then-actions-gt-MOST_ACTIONS-clause-fault c =
    (c.requires.few, actions_counted c.args.typed.now c.total-actions.result c.deref.result.now c.in_ok-counts.counts.items c.total-actions.ensures c.deref.ensures.value c.in_ok-counts.ensures, c.if-actions-gt-MOST_ACTIONS.true)

pub returns-clause-counts : goal.returns-clause-counts
returns-clause-counts c =
    let many = actions_counted c.args.typed.now c.total-actions.result c.deref.result.now c.in_ok-counts.counts.items c.total-actions.ensures c.deref.ensures.value c.in_ok-counts.ensures in
    record { counted = c.in_ok-counts.ensures; few = omega (arith, many, c.if-actions-gt-MOST_ACTIONS.false) }
