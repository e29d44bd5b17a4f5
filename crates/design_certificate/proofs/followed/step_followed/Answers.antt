use Rattle.std.proofs.Common.{rules, ◌∙◌, ap}
use Rattle.grd_base.specs.Bits.{members}
use Rattle.strips_model.specs.Plans.{step}
use Rattle.strips_model.proofs.MoveLemmas.{allowed_number}
use Rattle.design_certificate.specs.Live.{IsFollowed}
use Rattle.design_certificate.specs.Followers.{live_of}
use Rattle.design_certificate.proofs.FollowLemmas.{step_tells, no_step_tells}
use Rattle.design_certificate.proofs.LoopLemmas.{ok_told}
use Rattle.design_certificate.proofs.followed.step_followed.Goals as goal

pub advance-requires : goal.advance-requires
advance-requires g c =
    (search rules, (c.requires.width, (rw c.task.ensures c.requires.atoms, rw c.task.ensures (allowed_number c.args.moves.now.task c.args.moves.now.removed c.args.a c.requires.action))))

pub returns-in-Some : goal.returns-in-Some
returns-in-Some g c =
    ok_told c.is_followed.result c.is_followed.ensures (λ b tells.
    step_tells c.args.moves.now.task c.args.moves.now.removed (IsFollowed c.args.followers.now.costs.now c.args.followers.now.length (live_of c.args.followers.now) c.args.row.now)
    (members c.args.s.now) c.args.a (members c.in-Some.next) b c.requires.action (c.in-Some.ensures ∙ ap (λ t. step t (members c.args.s.now) c.args.a) c.task.ensures) tells)

pub returns-in-None : goal.returns-in-None
returns-in-None g c =
    no_step_tells c.args.moves.now.task c.args.moves.now.removed (IsFollowed c.args.followers.now.costs.now c.args.followers.now.length (live_of c.args.followers.now) c.args.row.now)
    (members c.args.s.now) c.args.a c.requires.action (c.in-None.ensures ∙ ap (λ t. step t (members c.args.s.now) c.args.a) c.task.ensures)
