use Rattle.std.proofs.Common.{inl, refl, sym, ap, subst}
use Rattle.std.specs.Prelude.{All}
use Rattle.cost_certificate.specs.Tables.{IsRowOver}
use Rattle.design_certificate.specs.Trees.{PlainNamed}
use Rattle.design_certificate.proofs.RowLemmas.{all_at}
use Rattle.design_certificate.specs.Ranges.{IsNamedOver}
use Rattle.design_certificate.proofs.leaf.fault_of_use.Goals as goal

pub returns-in_default-clause-fault : goal.returns-in_default-clause-fault
returns-in_default-clause-fault c = inl (refl, λ x. c.in_default.ensures.none x.0 x.1)

pub refutes_cost-requires : goal.refutes_cost-requires
refutes_cost-requires c =
    let x = c.in-Some.ensures.some in
    let over = all_at (IsNamedOver c.args.task.now) c.args.named.now x.place c.in-Some.found.now c.requires.named x.at in
    subst (λ rows. All (IsRowOver c.args.task.now) rows) (ap (λ (n : PlainNamed). n.rows) (sym c.found.view_is)) over.rows
