use Rattle.std.proofs.Common.{◌≡◌, Ok, IfErr, inr, sym, ap, ◌∙◌, subst, length}
use Rattle.std.specs.Prelude.{IfOk}
use Rattle.pddl_lexer.proofs.Steps.{some_len, no_len}
use Rattle.pddl_reader.specs.Forms.{word_of}
use Rattle.pddl_reader.specs.Items.{forms_at, IsFaultOf}
use Rattle.pddl_reader.specs.Reading.{either_at}
use Rattle.pddl_reader.proofs.ListLemmas.{first_item, word_forms, list_forms, no_forms}
use Rattle.pddl_reader.proofs.TypedReadings.{other_head, either_head, no_names, more_names}
use Rattle.pddl_reader.proofs.typed.either.Goals as goal

pub returns-in_default-clause-fault : goal.returns-in_default-clause-fault
returns-in_default-clause-fault c = inr (ap (either_at c.args.at) (no_forms c.args.text.now c.args.items.now c.in_default.ensures.cases))

pub returns-in-List-clause-fault : goal.returns-in-List-clause-fault
returns-in-List-clause-fault c =
    inr (ap (either_at c.args.at) (list_forms c.args.text.now c.args.items.now c.in-Some.rest.now c.in-Some.head.now c.in-List.inner c.in-Some.ensures.cases.0 c.in-List.is))

pub returns-then-not-is_word-clause-fault : goal.returns-then-not-is_word-clause-fault
returns-then-not-is_word-clause-fault c =
    let text = c.args.text.now in
    let rest = c.in-Some.rest.now in
    let forms = word_forms text c.args.items.now rest c.in-Some.head.now c.in-Word.head c.in-Some.ensures.cases.0 c.in-Word.is in
    inr (ap (either_at c.args.at) forms ∙ other_head c.args.at (word_of text c.in-Word.head) (forms_at text rest) (sym c.is_word.ensures ∙ c.if-not-is_word.true))

pub returns-then-is_empty-clause-fault : goal.returns-then-is_empty-clause-fault
returns-then-is_empty-clause-fault c =
    let text = c.args.text.now in
    let rest = c.in-Some.rest.now in
    let forms = word_forms text c.args.items.now rest c.in-Some.head.now c.in-Word.head c.in-Some.ensures.cases.0 c.in-Word.is in
    inr (ap (either_at c.args.at) forms ∙ either_head c.args.at (word_of text c.in-Word.head) (forms_at text rest) (sym c.is_word.ensures ∙ c.if-not-is_word.false)
    ∙ no_names c.args.at text rest (no_len (length rest) (sym c.is_empty.ensures ∙ c.if-is_empty.true)))

pub names-requires : goal.names-requires
names-requires c = (first_item c.args.items.now c.in-Some.rest.now c.in-Some.head.now c.in-Some.ensures.cases.0).over_rest c.args.text.now c.requires

pub returns-else-is_empty-clause-read : goal.returns-else-is_empty-clause-read
returns-else-is_empty-clause-read c =
    let text = c.args.text.now in
    let rest = c.in-Some.rest.now in
    let forms = word_forms text c.args.items.now rest c.in-Some.head.now c.in-Word.head c.in-Some.ensures.cases.0 c.in-Word.is in
    let same = ap (either_at c.args.at) forms ∙ either_head c.args.at (word_of text c.in-Word.head) (forms_at text rest) (sym c.is_word.ensures ∙ c.if-not-is_word.false)
    ∙ more_names c.args.at text rest (some_len (length rest) (sym c.is_empty.ensures ∙ c.if-is_empty.false)) in
    subst (λ read. IfOk c.names.result (λ names. read ≡ Ok names.items)) (sym same) c.names.ensures.read

pub returns-else-is_empty-clause-fault : goal.returns-else-is_empty-clause-fault
returns-else-is_empty-clause-fault c =
    let text = c.args.text.now in
    let rest = c.in-Some.rest.now in
    let forms = word_forms text c.args.items.now rest c.in-Some.head.now c.in-Word.head c.in-Some.ensures.cases.0 c.in-Word.is in
    let same = ap (either_at c.args.at) forms ∙ either_head c.args.at (word_of text c.in-Word.head) (forms_at text rest) (sym c.is_word.ensures ∙ c.if-not-is_word.false)
    ∙ more_names c.args.at text rest (some_len (length rest) (sym c.is_empty.ensures ∙ c.if-is_empty.false)) in
    subst (λ read. IfErr c.names.result (IsFaultOf read)) (sym same) c.names.ensures.fault
