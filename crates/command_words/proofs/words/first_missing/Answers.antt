use Rattle.std.proofs.Common.{sym, arith, take}
use Rattle.std.proofs.lemmas.List.Elements.{All-more, All-weaker, All-same}
use Rattle.std.proofs.lemmas.List.{take_all}
use Rattle.command_words.specs.Commands.{IsGiven, NotGiven}
use Rattle.command_words.specs.Words.{items_of}
use Rattle.command_words.proofs.WordsGiven.{first_at, is_given, not_given}
use Rattle.command_words.proofs.words.first_missing.Goals as goal

pub returns-then-is_none : goal.returns-then-is_none
returns-then-is_none c =
    let items = items_of c.args.items.now in
    first_at c.args.names.now (NotGiven items) c.loop-name.name-index _ (omega arith)
    (All-weaker (IsGiven items) (λ n. NotGiven items n → ⊥) (λ n given none. none given) (take c.loop-name.name-index c.args.names.now) c.loop-name.invariant)
    (not_given c.value_of.result items _ (c.if-is_none.ensures) c.value_of.ensures)

pub loop-name-preserved : goal.loop-name-preserved
loop-name-preserved c =
    let items = items_of c.args.items.now in
    All-more (IsGiven items) c.args.names.now c.loop-name.name-index _ (omega arith) c.loop-name.invariant
    (is_given c.value_of.result items _ (c.if-is_none.ensures) c.value_of.ensures)

pub returns : goal.returns
returns c =
    let items = items_of c.args.items.now in
    All-same (IsGiven items) c.args.names.now (take c.loop-name.name-index c.args.names.now) (sym (take_all c.loop-name.name-index c.args.names.now (omega arith))) c.loop-name.invariant
