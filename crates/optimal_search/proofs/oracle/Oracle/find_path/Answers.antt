-- The search of the space is one of the task.
use Rattle.std.proofs.Common.{subst, sym}
use Rattle.grd_base.specs.Bits.{members}
use Rattle.grd_base.specs.Counts.{MoreThan}
use Rattle.strips_model.specs.Values.{IsTask}
use Rattle.strips_model.specs.Plans.{Reaches, IsOver}
use Rattle.strips_model.specs.Reached.{IsNearWithin}
use Rattle.search_core.specs.Spaces.{Counts}
use Rattle.optimal_search.specs.Space.{successors_of, level_in, IsState}
use Rattle.optimal_search.specs.Oracles.{PlainOracle}
use Rattle.optimal_search.proofs.SpaceLaws.{more_states, counts_near}
use Rattle.optimal_search.proofs.AskLaws.{RefuteWithin, passed_on, path_reaches, no_rows}
use Rattle.optimal_search.proofs.oracle.Oracle.find_path.Goals as goal

pub returns-in_err-path-clause-many : goal.returns-in_err-path-clause-many
returns-in_err-path-clause-many g c = λ e.
    let o = c.self.inside in
    let t = o.space.task in
    let s = c.args.s.now in
    let Over : PlainOracle → Type 0 = λ x. IsOver x.task (members s) in
    let Many : PlainOracle → Type 0 = λ x. MoreThan x.limit (IsNearWithin x.task x.goal x.removed (members s) c.args.r) in
    let is : IsTask t = subst IsTask c.task.ensures.same c.known_task.ensures in
    let state : IsState t s = record { whole = c.whole.ensures; over = subst Over (sym c.self.view_is) c.requires } in
    let error = c.from_residual in
    subst Many c.self.view_is
    (more_states t (Counts (successors_of t o.space.removed) (level_in t o.space.goal o.space.removed) s c.args.r) (IsNearWithin t o.space.goal o.space.removed (members s) c.args.r)
    (λ u counts. counts_near t o.space.removed is c.self.invariant.0.atoms o.space.goal s u c.args.r state counts) o.limit (c.in_err-path.ensures.many (passed_on error.result _ _ error.ensures.1 e)))

pub returns-in-Yes-clause-path : goal.returns-in-Yes-clause-path
returns-in-Yes-clause-path g c =
    let o = c.self.inside in
    let t = o.space.task in
    let s = c.args.s.now in
    let Over : PlainOracle → Type 0 = λ x. IsOver x.task (members s) in
    let Reached : PlainOracle → Type 0 = λ x. Reaches x.task x.goal x.removed (members s) c.in-Yes.path.items in
    let is : IsTask t = subst IsTask c.task.ensures.same c.known_task.ensures in
    let state : IsState t s = record { whole = c.whole.ensures; over = subst Over (sym c.self.view_is) c.requires } in
    let path = c.in-Yes.path.items in
    let done = rw c.in-Yes.is at c.in_ok-path.ensures.right in
    (subst Reached c.self.view_is (path_reaches t o.space.goal o.space.removed is c.self.invariant.0.atoms s state path done.end done.leads done.done), done.short)

-- the rows of either answer refute each path of so few steps
found : (g : _) (c : goal.In-No g) → RefuteWithin c.args.self.now.task c.args.self.now.goal c.args.self.now.removed c.args.s.now c.args.r c.in-No.rows.items
found g c =
    let o = c.self.inside in
    let t = o.space.task in
    let s = c.args.s.now in
    let Over : PlainOracle → Type 0 = λ x. IsOver x.task (members s) in
    let Refuted : PlainOracle → Type 0 = λ x. RefuteWithin x.task x.goal x.removed s c.args.r c.in-No.rows.items in
    let is : IsTask t = subst IsTask c.task.ensures.same c.known_task.ensures in
    let state : IsState t s = record { whole = c.whole.ensures; over = subst Over (sym c.self.view_is) c.requires } in
    subst Refuted c.self.view_is
    (no_rows t o.space.goal o.space.removed is c.self.invariant.0.atoms s state c.args.r o.limit c.in_ok-path.field-0 c.in-No.rows c.in-No.is c.in_ok-path.ensures.refuted c.in_ok-path.ensures.start c.in_ok-path.ensures.counted)

pub returns-in-No-clause-bound : goal.returns-in-No-clause-bound
returns-in-No-clause-bound g c = (found g c).bound

pub returns-in-No-clause-right : goal.returns-in-No-clause-right
returns-in-No-clause-right g c = (found g c).right
