use Rattle.std.proofs.Common.{subst}
use Rattle.std.proofs.lemmas.List.Elements.{All-more}
use Rattle.cost_certificate.specs.Tables.{IsSoundRow}
use Rattle.cost_certificate.specs.Faults.{FailsRow}
use Rattle.cost_certificate.proofs.FamilyLemmas.{first_bad}
use Rattle.cost_certificate.proofs.soundness.unsound_row.Goals as goal

pub returns-in-Some-clause-fails : goal.returns-in-Some-clause-fails
returns-in-Some-clause-fails g c =
    let t = c.args.moves.now.task in
    let removed = c.args.moves.now.removed in
    let fails = rw c.in-Some.is at c.in_ok-fault.ensures.fails in
    first_bad (IsSoundRow t c.args.goal removed) (λ r. FailsRow t c.args.goal removed r c.in-Some.fault.kind c.in-Some.fault.set) c.args.rows.now c.loop-i.i c.index-rows-i.result c.loop-i-test.true c.index-rows-i.is
    c.loop-i.invariant fails

pub loop-i-preserved : goal.loop-i-preserved
loop-i-preserved g c =
    let sound = rw c.in_default.is at c.in_ok-fault.ensures.sound in
    let Good = IsSoundRow c.args.moves.now.task c.args.goal c.args.moves.now.removed in
    All-more Good c.args.rows.now c.loop-i.i c.index-rows-i.result c.loop-i-test.true c.loop-i.invariant (subst Good c.index-rows-i.is sound)
