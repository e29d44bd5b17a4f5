use Rattle.std.proofs.Common.{◌≤◌, ◌+◌, refl, arith}
use Rattle.std.proofs.lemmas.Option.{slice_get_within}
use Rattle.search_core.proofs.TurnLemmas.{depth_below_limit, visit_lowered, visit_entered, visit_entered_held}
use Rattle.search_core.proofs.turns.visit.Goals as goal

pub overflow_add-way : goal.overflow_add-way
overflow_add-way g c =
    let below : c.args.head.depth + 1 ≤ c.args.question.now.limit = depth_below_limit _ _ _ _ _ _ _ _ _ _ _ _ c.requires.at_work in
    omega (arith, below)

pub lower-requires : goal.lower-requires
lower-requires g c = slice_get_within _ _ _ c.in-Some.ensures.held.at

pub returns-in-Some-clause-on : goal.returns-in-Some-clause-on
returns-in-Some-clause-on g c =
    rw c.lower.ensures.kept
    (visit_lowered _ _ _ _ _ _ _ _ _ _ _ _ c.requires.at_work c.args.step c.requires.step _ refl refl refl _ _ _ c.in-Some.ensures.held c.in_ok-lower.ensures.lowered).0

pub returns-in-Some-clause-held : goal.returns-in-Some-clause-held
returns-in-Some-clause-held g c =
    (visit_lowered _ _ _ _ _ _ _ _ _ _ _ _ c.requires.at_work c.args.step c.requires.step _ refl refl refl _ _ _ c.in-Some.ensures.held c.in_ok-lower.ensures.lowered).1

pub returns-clause-on : goal.returns-clause-on
returns-clause-on g c =
    rw c.enter.ensures.kept
    (visit_entered _ _ _ _ _ _ _ _ _ _ _ _ c.requires.at_work c.args.step c.requires.step _ refl refl refl _ _ c.in_default.ensures.fresh c.in_ok-enter.ensures.entered)

pub returns-clause-held : goal.returns-clause-held
returns-clause-held g c =
    visit_entered_held _ _ _ _ _ _ _ _ _ _ _ _ c.requires.at_work c.args.step c.requires.step _ refl refl refl _ _ c.in_default.ensures.fresh c.in_ok-enter.ensures.entered
