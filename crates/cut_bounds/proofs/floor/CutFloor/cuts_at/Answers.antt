use Rattle.std.proofs.Common.{List, length, subst, IfSome}
use Rattle.grd_base.specs.declared.ids.ActionId.{ActionId}
use Rattle.grd_base.specs.Bits.{members}
use Rattle.strips_model.specs.Plans.{Reaches}
use Rattle.level_bounds.specs.Floors.{MeetsBound}
use Rattle.cut_bounds.specs.CutMarks.{IsCutMark}
use Rattle.cut_bounds.specs.CutFloors.{PlainCutFloor}
use Rattle.cut_bounds.proofs.MarkLaws.{mark_steps}
use Rattle.cut_bounds.proofs.floor.CutFloor.cuts_at.Goals as goal

pub returns-in-Some-clause-steps : goal.returns-in-Some-clause-steps
returns-in-Some-clause-steps g c =
    let t = c.args.task.now in
    let s = members c.args.s.now in
    let f = c.self.inside.level in
    let found = c.in-Some.found in
    subst (λ (x : PlainCutFloor). (p : List ActionId) → Reaches t x.goal x.removed s p → MeetsBound found.0 (length p)) c.self.view_is
    (mark_steps t f.goal f.removed s c.known_task.ensures found.1 found.0
    (subst (λ o. IfSome o (λ x. IsCutMark t f.goal f.removed s x.1 x.0)) c.in-Some.is c.in_ok-better.ensures.shows))

pub returns-in_ok-found-in-None-clause-steps : goal.returns-in_ok-found-in-None-clause-steps
returns-in_ok-found-in-None-clause-steps g c =
    let t = c.args.task.now in
    let s = members c.args.s.now in
    let f = c.self.inside.level in
    let found = c.in_ok-found-in-None.found in
    subst (λ (x : PlainCutFloor). (p : List ActionId) → Reaches t x.goal x.removed s p → MeetsBound found.0 (length p)) c.self.view_is
    (mark_steps t f.goal f.removed s c.known_task.ensures found.1 found.0 c.in_ok-found-in-None.ensures.shows)
