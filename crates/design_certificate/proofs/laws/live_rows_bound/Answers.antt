use Rattle.design_certificate.proofs.CostLemmas.{costs_kept}
use Rattle.design_certificate.proofs.LiveLemmas.{short_begins, common_short}
use Rattle.design_certificate.proofs.laws.live_rows_bound.Goals as goal

pub returns : goal.returns
returns c = record {
  numbers = λ t numbers removed len live valid. short_begins c.rows_refute.ensures t numbers removed len live valid;
  costs = λ t costs removed len live are keeps valid. common_short c.rows_refute.ensures t costs removed len live valid (costs_kept t removed costs are keeps);
}
