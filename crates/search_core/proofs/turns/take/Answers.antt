use Rattle.std.proofs.lemmas.Option.{slice_get_within}
use Rattle.search_core.proofs.PlaceLemmas.{value_at}
use Rattle.search_core.proofs.TurnLemmas.{take_first, take_again, take_many, take_lighter_first, take_lighter_again}
use Rattle.search_core.proofs.turns.take.Goals as goal

pub returns-then-index-clause-head : goal.returns-then-index-clause-head
returns-then-index-clause-head g c =
    let here = value_at c.args.reach.now.found.entries c.args.place c.index.result.now c.index.ensures in
    rw (c.mark-depth.ensures.kept, c.mark-depth.ensures.queue)
    (take_again _ _ _ _ _ _ (g.met.F.Floor.admissible c.args.question.now.floor.now c.args.question.now.space.now) _ _ _ _ _ c.requires.taken (here.0, c.index.result.now) here.1
    _ c.requires.state c.requires.not_done _ c.mark-depth.ensures.marked c.if-index.true)

pub returns-then-index-clause-lighter : goal.returns-then-index-clause-lighter
returns-then-index-clause-lighter g c =
    let here = value_at c.args.reach.now.found.entries c.args.place c.index.result.now c.index.ensures in
    rw c.mark-depth.ensures.kept
    (take_lighter_again _ _ _ _ _ _ (g.met.F.Floor.admissible c.args.question.now.floor.now c.args.question.now.space.now) _ _ _ _ _ c.requires.taken (here.0, c.index.result.now) here.1
    _ c.requires.state c.requires.not_done _ c.mark-depth.ensures.marked c.if-index.true)

pub returns-then-reach-question-clause-many : goal.returns-then-reach-question-clause-many
returns-then-reach-question-clause-many g c =
    let here = value_at c.args.reach.now.found.entries c.args.place c.index.result.now c.index.ensures in
    λ _. take_many _ _ _ _ _ _ (g.met.F.Floor.admissible c.args.question.now.floor.now c.args.question.now.space.now) _ _ c.args.reach.now.found.entries _ _ c.requires.taken (here.0, c.index.result.now) here.1 c.if-index.false c.if-reach-question.true

pub mark-depth-requires-2 : goal.mark-depth-requires-2
mark-depth-requires-2 g c = slice_get_within _ _ _ c.requires.state.at

pub returns-clause-head : goal.returns-clause-head
returns-clause-head g c =
    let here = value_at c.args.reach.now.found.entries c.args.place c.index.result.now c.index.ensures in
    rw (c.mark-depth-2.ensures.kept, c.mark-depth-2.ensures.queue)
    (take_first _ _ _ _ _ _ (g.met.F.Floor.admissible c.args.question.now.floor.now c.args.question.now.space.now) _ _ _ _ _ c.requires.taken (here.0, c.index.result.now) here.1
    _ c.requires.state c.requires.not_done _ c.mark-depth-2.ensures.marked c.if-index.false c.if-reach-question.false)

pub returns-clause-lighter : goal.returns-clause-lighter
returns-clause-lighter g c =
    let here = value_at c.args.reach.now.found.entries c.args.place c.index.result.now c.index.ensures in
    rw c.mark-depth-2.ensures.kept
    (take_lighter_first _ _ _ _ _ _ (g.met.F.Floor.admissible c.args.question.now.floor.now c.args.question.now.space.now) _ _ _ _ _ c.requires.taken (here.0, c.index.result.now) here.1
    _ c.requires.state c.requires.not_done _ c.mark-depth-2.ensures.marked c.if-index.false c.if-reach-question.false)
