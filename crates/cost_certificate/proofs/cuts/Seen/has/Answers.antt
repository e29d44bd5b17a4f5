use Rattle.std.proofs.Common.{sym, ◌∙◌}
use Rattle.cost_certificate.proofs.CutLemmas.{has_key}
use Rattle.cost_certificate.proofs.cuts.Seen.has.Goals as goal

pub returns : goal.returns
returns c =
    let found = has_key c.args.self.now.actions.keys c.args.a in
    (λ e. found.0 (sym c.contains.ensures ∙ e), λ there. c.contains.ensures ∙ found.1 there)
