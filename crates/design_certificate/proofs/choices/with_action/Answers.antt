use Rattle.std.proofs.Common.{subst}
use Rattle.grd_base.specs.Rising.{IsRising}
use Rattle.design_certificate.proofs.SetLemmas.{set_with}
use Rattle.design_certificate.proofs.choices.with_action.Goals as goal

pub returns : goal.returns
returns c =
    set_with c.args.set.now c.in_ok-more.more c.args.a
    (subst IsRising c.as_slice-ids.ensures.same c.as_slice-ids.ensures.rising)
    (subst IsRising c.as_slice-more.ensures.same c.as_slice-more.ensures.rising)
    c.in_ok-more.ensures
