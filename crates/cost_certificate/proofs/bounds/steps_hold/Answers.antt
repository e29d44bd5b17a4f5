use Rattle.std.proofs.Common.{◌↔◌, sym, subst}
use Rattle.std.specs.Prelude.{IsTrue}
use Rattle.grd_base.specs.Bits.{members}
use Rattle.grd_base.specs.declared.limits.Bound.{Bound}
use Rattle.cost_certificate.specs.Tables.{StepsHold}
use Rattle.cost_certificate.proofs.BoundLemmas.{steps_needed}
use Rattle.cost_certificate.proofs.bounds.steps_hold.Goals as goal

pub returns-in-Steps : goal.returns-in-Steps
returns-in-Steps g c rows best =
    steps_needed c.args.moves.now.task c.args.moves.now.removed rows (members c.args.s.now) c.args.bound c.in-Steps.r c.in-Steps.is (let h = rw c.in-Steps.is at c.in-Steps.r-test in h.1) c.successors_have.result (c.successors_have.ensures rows best)

pub returns-in-Never : goal.returns-in-Never
returns-in-Never g c rows best =
    subst (λ (b : Bound). IsTrue c.successors_have-in-Never.result ↔ StepsHold c.args.moves.now.task c.args.moves.now.removed rows (members c.args.s.now) b) (sym c.in-Never.is) (c.successors_have-in-Never.ensures rows best)
