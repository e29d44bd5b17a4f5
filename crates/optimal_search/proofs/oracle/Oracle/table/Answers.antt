-- The rows are those of what is kept.
use Rattle.std.proofs.Common.{◌≡◌, ap, map, ◌∙◌, List, subst, sym}
use Rattle.std.specs.Prelude.{All}
use Rattle.grd_base.specs.declared.limits.Bound.{Bound}
use Rattle.strips_model.specs.Values.{IsTask}
use Rattle.strips_model.specs.Plans.{State}
use Rattle.cost_certificate.specs.Rows.{PlainRow}
use Rattle.cost_certificate.specs.Tables.{HasRow, IsRowOver, IsValidTable}
use Rattle.optimal_search.specs.Kept.{rows_in}
use Rattle.optimal_search.specs.Oracles.{bound_of_row, PlainOracle, Knows, known_by}
use Rattle.optimal_search.proofs.RowLaws.{right_valid, rows_in_task, known_row, table_known}
use Rattle.optimal_search.proofs.oracle.Oracle.table.Goals as goal

pub returns-clause-valid : goal.returns-clause-valid
returns-clause-valid g c =
    let o = c.self.inside in
    let t = o.space.task in
    let is : IsTask t = subst IsTask c.task.ensures.same c.known_task.ensures in
    let kept = c.self.invariant.0 in
    let Valid : PlainOracle → Type 0 = λ x. IsValidTable x.task x.goal x.removed c.in_ok-rows.rows.items in
    subst Valid c.self.view_is (subst (λ (rows : List PlainRow). IsValidTable t o.space.goal o.space.removed rows) (sym c.in_ok-rows.ensures)
    (right_valid t o.space.goal o.space.removed is kept.atoms (rows_in o.kept.proved.entries) kept.right))

pub returns-clause-rows : goal.returns-clause-rows
returns-clause-rows g c =
    let o = c.self.inside in
    let t = o.space.task in
    let Has : PlainOracle → Type 0 = λ x. (s : State) (bound : Bound) → Knows x.known s bound → HasRow c.in_ok-rows.rows.items s bound in
    subst Has c.self.view_is (subst (λ (rows : List PlainRow). (s : State) (bound : Bound) → Knows (known_by t (rows_in o.kept.proved.entries)) s bound → HasRow rows s bound) (sym c.in_ok-rows.ensures)
    (known_row t o.space.removed (rows_in o.kept.proved.entries)))

pub returns-clause-exact : goal.returns-clause-exact
returns-clause-exact g c =
    let o = c.self.inside in
    let t = o.space.task in
    let Exact : PlainOracle → Type 0 = λ x. map bound_of_row c.in_ok-rows.rows.items ≡ x.known in
    subst Exact c.self.view_is (ap (map bound_of_row) c.in_ok-rows.ensures ∙ table_known t o.space.removed (rows_in o.kept.proved.entries))

pub returns-clause-over : goal.returns-clause-over
returns-clause-over g c =
    let o = c.self.inside in
    let t = o.space.task in
    let is : IsTask t = subst IsTask c.task.ensures.same c.known_task.ensures in
    let Over : PlainOracle → Type 0 = λ x. All (IsRowOver x.task) c.in_ok-rows.rows.items in
    subst Over c.self.view_is (subst (λ (rows : List PlainRow). All (IsRowOver t) rows) (sym c.in_ok-rows.ensures)
    (rows_in_task t o.space.goal o.space.removed is c.self.invariant.0.atoms (rows_in o.kept.proved.entries)))
