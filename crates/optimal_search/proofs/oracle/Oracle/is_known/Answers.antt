-- The bound of a state is that of its row, if it has one.
use Rattle.std.proofs.Common.{subst, sym}
use Rattle.std.specs.Prelude.{IfSome}
use Rattle.grd_base.specs.declared.limits.Bound.{Bound}
use Rattle.grd_base.specs.declared.limits.Bound.TheVariants.{Steps}
use Rattle.grd_base.specs.Bits.{members}
use Rattle.strips_model.specs.Plans.{IsOver}
use Rattle.optimal_search.specs.Kept.{rows_in, HasBound}
use Rattle.optimal_search.specs.Oracles.{PlainOracle, Knows}
use Rattle.optimal_search.proofs.RowLaws.{bound_known, lower_bound}
use Rattle.optimal_search.proofs.oracle.Oracle.is_known.Goals as goal

pub returns-in-Some : goal.returns-in-Some
returns-in-Some g c = λ yes.
    let o = c.self.inside in
    let s = c.args.s.now in
    let rows = rows_in o.kept.proved.entries in
    let Over : PlainOracle → Type 0 = λ x. IsOver x.task (members s) in
    let Known : PlainOracle → Type 0 = λ x. Knows x.known (members s) (Steps c.args.r) in
    let has = subst (λ b. IfSome b (λ (bound : Bound). HasBound rows s bound)) c.in-Some.is c.bound_of.ensures in
    subst Known c.self.view_is
    (bound_known o.space.task rows s (Steps c.args.r) (subst Over (sym c.self.view_is) c.requires) (lower_bound rows s (Steps c.args.r) c.in-Some.bound (c.is_enough.ensures.0 yes) has))
