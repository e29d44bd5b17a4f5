use Rattle.std.proofs.Common.{◌<◌, arith, refl, sym}
use Rattle.search_core.proofs.VisitLemmas.{linked_of, earlier_of, depth_below_limit, within_entries, step_held, yes_at, new_at, step_added}
use Rattle.search_core.proofs.visits.visit.Goals as goal
use Rattle.search_core.proofs.visits.visit.Goals.{else-head-question-via-then-head-question+else-done, else-head-question-via-else-head-question}

pub returns-then-is_found-clause-on : goal.returns-then-is_found-clause-on
returns-then-is_found-clause-on g c = step_held _ _ _ _ _ _ _ _ _ c.requires.progress _ _ c.requires.head _ c.if-is_found.ensures

pub path_through-requires-clause-place : goal.path_through-requires-clause-place
path_through-requires-clause-place g c = within_entries _ _ _ _ _ _ _ _ _ c.requires.progress _ _ c.requires.head

pub path_through-requires-clause-earlier : goal.path_through-requires-clause-earlier
path_through-requires-clause-earlier g c = earlier_of _ _ _ _ _ _ _ _ _ c.requires.progress

pub returns-then-done-clause-path : goal.returns-then-done-clause-path
returns-then-done-clause-path g c =
    yes_at _ _ _ _ _ _ _ _ _ c.requires.progress _ _ c.requires.head _ _ c.requires.step _
    (c.in_ok-path.ensures _ _ (linked_of _ _ _ _ _ _ _ _ _ c.requires.progress)) c.if-head-question.true (sym c.if-done.ensures)

pub overflow_add-way : goal.overflow_add-way
overflow_add-way g c =
    let below : c.args.head.depth < c.args.question.now.limit = depth_below_limit _ _ _ _ _ _ _ _ _ c.requires.progress _ _ c.requires.head in
    omega (arith, below)

pub admit-requires-clause-new : goal.admit-requires-clause-new
admit-requires-clause-new g c =
    new_at _ _ _ _ _ _ _ _ _ c.requires.progress _ _ c.requires.head _ _ c.requires.step c.if-is_found.ensures
    (λ near. elim c.else-head-question.branch [
      | else-head-question-via-then-head-question+else-done w ↦ sym w.if-done.ensures
      | else-head-question-via-else-head-question w ↦ absurd (omega (arith, near, w.if-head-question.false))
    ])

pub returns-clause-on : goal.returns-clause-on
returns-clause-on g c =
    step_added _ _ _ _ _ _ _ _ _ c.requires.progress _ _ c.requires.head _ _ _ _ refl c.in_ok-admit.ensures.progress c.in_ok-admit.ensures.more c.in_ok-admit.ensures.added
