-- The table of what is kept is valid, so its rows refute.
use Rattle.std.proofs.Common.{subst}
use Rattle.strips_model.specs.Values.{IsTask}
use Rattle.optimal_search.specs.Kept.{rows_in}
use Rattle.optimal_search.specs.Oracles.{IsSoundOracle}
use Rattle.optimal_search.proofs.AskLaws.{known_true}
use Rattle.optimal_search.proofs.oracle.Oracle.known_sound.Goals as goal

pub returns : goal.returns
returns g c =
    let o = c.self.inside in
    let t = o.space.task in
    let is : IsTask t = subst IsTask c.task.ensures.same c.known_task.ensures in
    let kept = c.self.invariant.0 in
    subst IsSoundOracle c.self.view_is (known_true t o.space.goal o.space.removed is kept.atoms o.limit (rows_in o.kept.proved.entries) kept.right c.rows_refute.ensures)
