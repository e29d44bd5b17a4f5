-- The costs are those of the goals, and the rows of right verdicts are over the observed task.
use Rattle.std.proofs.Common.{length, ◌∙◌, sym, ap}
use Rattle.std.specs.Prelude.{slice_get}
use Rattle.planning_tests.proofs.VerdictRows.{all_over}
use Rattle.planning_tests.proofs.verdicts.verdicts.Goals as goal

pub recognise-requires-clause-right : goal.recognise-requires-clause-right
recognise-requires-clause-right c = λ k x at. (c.in_ok-found.ensures.right k x (ap (λ xs. slice_get xs k) (sym c.as_slice.ensures.value) ∙ at)).cost

pub returns : goal.returns
returns c = record {
  over = all_over c.args.task.now c.args.observations.now c.as_slice.result.now _ c.recognise.result (ap length c.as_slice.ensures.value ∙ c.in_ok-found.ensures.each_goal) c.recognise.ensures.each_goal c.recognise.ensures.right;
}
