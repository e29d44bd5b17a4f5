use Rattle.std.proofs.Common.{rules, ◌∙◌, ap, refl}
use Rattle.grd_base.specs.Bits.{members}
use Rattle.strips_model.specs.Plans.{step}
use Rattle.strips_model.proofs.MoveLemmas.{allowed_number}
use Rattle.cost_certificate.proofs.BoundLemmas.{next_tells, no_next}
use Rattle.cost_certificate.proofs.bounds.successor_has.Goals as goal

pub advance-requires : goal.advance-requires
advance-requires g c =
    (search rules, (c.requires.width, (rw c.task.ensures c.requires.atoms, rw c.task.ensures (allowed_number c.args.moves.now.task c.args.moves.now.removed c.args.a c.requires.action))))

pub returns-in-Some : goal.returns-in-Some
returns-in-Some g c rows best =
    next_tells c.args.moves.now.task c.args.moves.now.removed rows c.args.bounds.now.entries c.args.need (members c.args.s.now) c.args.a c.requires.action c.in-Some.next
    (c.in-Some.ensures ∙ ap (λ t. step t (members c.args.s.now) c.args.a) c.task.ensures) c.whole.ensures c.has_bound.result c.has_bound.ensures best

pub returns-in-None : goal.returns-in-None
returns-in-None g c rows best = (
  λ always. no_next c.args.moves.now.task c.args.moves.now.removed rows c.args.need (members c.args.s.now) c.args.a c.requires.action
      (c.in-None.ensures ∙ ap (λ t. step t (members c.args.s.now) c.args.a) c.task.ensures),
  λ all. refl,
)
