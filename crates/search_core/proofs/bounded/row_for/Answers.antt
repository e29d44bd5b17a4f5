use Rattle.std.proofs.Common.{sym, ◌∙◌}
use Rattle.search_core.proofs.AnswerLemmas.{row_by_bound}
use Rattle.search_core.proofs.bounded.row_for.Goals as goal

pub returns : goal.returns
returns g c = row_by_bound c.args.most c.args.entry _ (sym c.in_ok-bound.was ∙ c.bound_for.ensures)
