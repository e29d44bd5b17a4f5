use Rattle.std.proofs.Common.{sym}
use Rattle.search_core.proofs.AnswerLemmas.{no_of, never_of}
use Rattle.search_core.proofs.NumberLemmas.{any_number, no_number}
use Rattle.search_core.proofs.bounded.refute.Goals as goal

pub returns-then-some_number : goal.returns-then-some_number
returns-then-some_number g c =
    no_of _ _ _ _ (g.met.F.Floor.admissible c.args.question.now.floor.now c.args.question.now.space.now) _ _ _ _ _ c.requires
    (any_number _ (sym c.if-some_number.ensures)) _ c.in_ok-rows.ensures

pub returns : goal.returns
returns g c =
    never_of _ _ _ _ (g.met.F.Floor.admissible c.args.question.now.floor.now c.args.question.now.space.now) _ _ _ _ _ c.requires
    (no_number _ (sym c.if-some_number.ensures)) _ c.in_ok-rows-2.ensures
