use Rattle.std.proofs.Common.{refl}
use Rattle.search_core.proofs.EndLemmas.{between_first}
use Rattle.search_core.proofs.best_first.begin.Goals as goal

pub returns : goal.returns
returns g c = between_first _ _ _ _ _ _ _ _ _ _ c.enter.ensures.kept refl (rw (c.new.ensures.empty, c.new-2.ensures) at c.in_ok-enter.ensures.entered)
