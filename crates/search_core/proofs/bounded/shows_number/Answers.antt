use Rattle.std.proofs.Common.{sym, ◌∙◌, ap}
use Rattle.grd_base.specs.declared.limits.Bound.{Bound}
use Rattle.search_core.specs.Visits.{is_number}
use Rattle.search_core.proofs.bounded.shows_number.Goals as goal

pub returns-in-Steps : goal.returns-in-Steps
returns-in-Steps g c = c.is_some.ensures ∙ ap (λ (b : Bound). is_number b c.args.found.now.mark) (sym c.in-Steps.is)
