use Rattle.std.proofs.Common.{sym, ◌∙◌, subst}
use Rattle.std.specs.Prelude.{All}
use Rattle.std.proofs.lemmas.Bool.{false≢true}
use Rattle.std.proofs.lemmas.List.{take_all}
use Rattle.design_certificate.specs.Live.{PlainLiveRow}
use Rattle.design_certificate.specs.Followers.{live_of}
use Rattle.design_certificate.specs.LiveFaults.{IsFollowedOn, IsLeft}
use Rattle.design_certificate.proofs.LoopLemmas.{all_next, first_bad}
use Rattle.design_certificate.proofs.rows.first_left.Goals as goal

pub returns-then-not-branch-clause-lacks : goal.returns-then-not-branch-clause-lacks
returns-then-not-branch-clause-lacks g c =
    let Good : PlainLiveRow → Type 0 = IsFollowedOn c.args.moves.now.task c.args.followers.now.costs.now c.args.moves.now.removed c.args.followers.now.length (live_of c.args.followers.now) in
    let Left : PlainLiveRow → Type 0 = IsLeft c.args.moves.now.task c.args.followers.now.costs.now c.args.moves.now.removed c.args.followers.now.length (live_of c.args.followers.now) c.kind_of_left-kind.result in
    first_bad Good Left c.args.rows.now c.loop-i.i c.index-rows-i.result c.loop-i-test.true c.index-rows-i.is c.loop-i.invariant
    (λ has. false≢true (sym c.if-not-branch.true ∙ c.in_ok-is_followed_on.ensures.1 has), c.kind_of_left-kind.ensures)

pub loop-i-preserved : goal.loop-i-preserved
loop-i-preserved g c =
    let Good : PlainLiveRow → Type 0 = IsFollowedOn c.args.moves.now.task c.args.followers.now.costs.now c.args.moves.now.removed c.args.followers.now.length (live_of c.args.followers.now) in
    all_next Good c.args.rows.now c.loop-i.i c.index-rows-i.result c.loop-i-test.true c.loop-i.invariant (subst Good c.index-rows-i.is (c.in_ok-is_followed_on.ensures.0 c.if-not-branch.false))

pub returns-clause-has : goal.returns-clause-has
returns-clause-has g c =
    let Good : PlainLiveRow → Type 0 = IsFollowedOn c.args.moves.now.task c.args.followers.now.costs.now c.args.moves.now.removed c.args.followers.now.length (live_of c.args.followers.now) in
    subst (All Good) (take_all c.loop-i.i c.args.rows.now c.loop-i-test.false) c.loop-i.invariant
