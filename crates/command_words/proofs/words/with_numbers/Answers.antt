use Rattle.std.proofs.Common.{arith, sym, subst, take}
use Rattle.std.proofs.lemmas.List.{take_more}
use Rattle.command_words.specs.Commands.{IsFirstWith, GivesNoNumber}
use Rattle.command_words.specs.Words.{items_of, ReadsLimits}
use Rattle.command_words.proofs.WordsGiven.{first_at, both_limits}
use Rattle.command_words.proofs.words.with_numbers.Goals as goal

pub returns-in-Err : goal.returns-in-Err
returns-in-Err c =
    let items = items_of c.args.items.now in
    subst (IsFirstWith c.args.names.now (GivesNoNumber items)) (sym c.in-Err.ensures.0)
    (first_at c.args.names.now (GivesNoNumber items) c.loop-name.name-index _ (omega arith) c.loop-name.invariant.good c.in-Err.ensures.1)

pub loop-name-preserved : goal.loop-name-preserved
loop-name-preserved c =
    let names = c.args.names.now in
    let items = items_of c.args.items.now in
    let i = c.loop-name.name-index in
    subst (λ ns. ReadsLimits ns items c.args.limits c.in-Ok.more) (sym (take_more names i _ (omega arith)))
    (both_limits (take i names) _ items c.args.limits c.loop-name.limits c.in-Ok.more c.loop-name.invariant c.in-Ok.ensures)
