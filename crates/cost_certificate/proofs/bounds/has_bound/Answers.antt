use Rattle.std.proofs.Common.{sym}
use Rattle.std.proofs.lemmas.Bool.{false≢true}
use Rattle.grd_base.proofs.SameLemmas.{bits_eq, bits_eq-Decides}
use Rattle.cost_certificate.specs.Tables.{IsAtMost}
use Rattle.cost_certificate.proofs.EntryLemmas.{looked_up, looked_in_vain}
use Rattle.cost_certificate.proofs.bounds.has_bound.Goals as goal

pub returns-in-Some : goal.returns-in-Some
returns-in-Some g c =
    looked_up bits_eq bits_eq-Decides (IsAtMost c.args.need) c.args.bounds.now.entries c.args.s.now c.len-distinct.ensures.unique c.in-Some.bound.now c.is_enough.result (sym (c.in-Some.ensures.value)) c.is_enough.ensures

pub returns-in-None : goal.returns-in-None
returns-in-None g c = (λ h. absurd (false≢true h), λ some. absurd (looked_in_vain bits_eq bits_eq-Decides (IsAtMost c.args.need) c.args.bounds.now.entries c.args.s.now c.len-distinct.ensures.unique (sym c.in-None.ensures.value) some))
