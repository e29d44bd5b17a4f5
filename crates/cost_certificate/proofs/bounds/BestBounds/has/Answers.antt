use Rattle.cost_certificate.proofs.BoundLemmas.{best_tells}
use Rattle.cost_certificate.proofs.bounds.BestBounds.has.Goals as goal

pub returns : goal.returns
returns g c =
    rw (← c.self.view_is)
    (let tells = best_tells c.self.inside.rows.now c.self.inside.best.entries c.args.s.now c.args.need c.whole.ensures c.self.invariant.0 in
    (λ h. tells.0 (c.has_bound.ensures.0 h), λ has. c.has_bound.ensures.1 (tells.1 has)))
