use Rattle.std.proofs.Common.{◌≡◌, List, ◌++◌, drop}
use Rattle.grd_base.specs.declared.ids.ActionId.{ActionId}
use Rattle.design_certificate.proofs.ChoiceLemmas.{seen_with}
use Rattle.design_certificate.proofs.choices.add_new.Given as goal

abbrev pub invariant-loop-a : goal.invariant-loop-a
invariant-loop-a l = (more : List ActionId) → seen_with l.seen.items (drop l.a-index l.plan ++ more) ≡ seen_with l.fn.seen.items (l.fn.plan ++ more)
