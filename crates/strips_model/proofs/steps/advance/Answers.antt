use Rattle.std.proofs.Common.{sym, ◌∙◌}
use Rattle.grd_base.specs.Bits.{members}
use Rattle.strips_model.proofs.StepLemmas.{no_step}
use Rattle.strips_model.proofs.steps.advance.Goals as goal

pub returns-then-not-applies : goal.returns-then-not-applies
returns-then-not-applies g c = sym (no_step c.args.task.now (members c.args.s.now) c.args.a (sym c.applies.ensures ∙ c.if-not-applies.true))
