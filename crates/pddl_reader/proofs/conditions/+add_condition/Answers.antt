use Rattle.std.proofs.Common.{◌≡◌, ◌∷◌, ◌++◌, [], Ok, inr, rules, sym, ap, ◌∙◌, subst, append-nil, arith}
use Rattle.std.proofs.lemmas.List.{drop_all}
use Rattle.pddl_lexer.specs.declared.trees.Item.TheViews.{the_lemmas}
use Rattle.pddl_reader.specs.Forms.{forms_of, group, word_of, form_at}
use Rattle.pddl_reader.specs.Items.{AreItemsOver, forms_at}
use Rattle.pddl_reader.specs.Steps.{behind}
use Rattle.pddl_reader.specs.Reading.{literal_in, condition_at, conditions_at}
use Rattle.pddl_reader.proofs.ItemLemmas.{form_at-word, list_form, over_first, list_over}
use Rattle.pddl_reader.proofs.ListLemmas.{first_item, first_word, list_forms, no_forms}
use Rattle.pddl_reader.proofs.ReadLemmas.{behind-fault, fault_passes, next_over}
use Rattle.pddl_reader.proofs.ConditionSteps.{and_in, literal_is, next_condition, next_condition_fault}
use Rattle.pddl_reader.proofs.conditions.+add_condition.Goals as goal

pub returns-in-Word-clause-fault : goal.returns-in-Word-clause-fault
returns-in-Word-clause-fault t c = inr (ap (condition_at c.args.part) (ap (form_at c.args.text.now) c.in-Word.is ∙ form_at-word c.args.text.now c.in-Word.token))

pub returns-in_default-clause-read : goal.returns-in_default-clause-read
returns-in_default-clause-read t c =
    let text = c.args.text.now in
    let found = c.args.found.now.items in
    let is = list_form text c.args.item.now c.in-List.list c.deref.result.now c.in-List.is c.deref.ensures.value in
    ap (λ f. behind found (condition_at c.args.part f)) (is ∙ ap (group c.in-List.list.at) (no_forms text c.deref.result.now c.in_default.ensures.cases)) ∙ ap Ok (append-nil found)

pub returns-in-List-first-clause-fault : goal.returns-in-List-first-clause-fault
returns-in-List-first-clause-fault t c =
    let text = c.args.text.now in
    let is = list_form text c.args.item.now c.in-List.list c.deref.result.now c.in-List.is c.deref.ensures.value in
    let forms = list_forms text c.deref.result.now c.in-Some.rest.now c.in-Some.first.now c.in-List-first.inner c.in-Some.ensures.cases.0 c.in-List-first.is in
    inr (ap (condition_at c.args.part) (is ∙ ap (group c.in-List.list.at) forms))

pub literal-requires-clause-head_over : goal.literal-requires-clause-head_over
literal-requires-clause-head_over t c =
    let text = c.args.text.now in
    let first = first_item c.deref.result.now c.in-Some.rest.now c.in-Some.first.now c.in-Some.ensures.cases.0 in
    let word = first_word c.deref.result.now c.in-Some.rest.now c.in-Some.first.now c.in-Word-first.head first c.in-Word-first.is in
    word.over_word text (list_over text c.args.item.now c.in-List.list c.deref.result.now c.in-List.is c.deref.ensures.value c.requires)

pub literal-requires-clause-items_over : goal.literal-requires-clause-items_over
literal-requires-clause-items_over t c =
    let over = list_over c.args.text.now c.args.item.now c.in-List.list c.deref.result.now c.in-List.is c.deref.ensures.value c.requires in
    (over_first c.args.text.now c.in-Some.first.now c.in-Some.rest.now (subst (AreItemsOver c.args.text.now) c.in-Some.ensures.cases.0 over)).1

pub returns-in_err-literal-clause-fault : goal.returns-in_err-literal-clause-fault
returns-in_err-literal-clause-fault t c =
    let text = c.args.text.now in
    let is = literal_is c.args.part text c.args.item.now c.in-List.list c.deref.result.now c.in-List.is c.deref.ensures.value c.in-Some.first.now c.in-Some.rest.now c.in-Word-first.head c.in-Some.ensures.cases.0 c.in-Word-first.is (sym c.if-not-is_word.true ∙ c.is_word.ensures) in
    fault_passes (literal_in c.args.part c.in-List.list.at (word_of text c.in-Word-first.head) (forms_at text c.in-Some.rest.now)) (condition_at c.args.part (form_at text c.args.item.now)) c.from_residual.result c.in_err-literal.field-0.0 c.from_residual.ensures.1 c.in_err-literal.ensures.fault
    (λ e. is ∙ e)

pub returns-then-not-is_word-clause-read : goal.returns-then-not-is_word-clause-read
returns-then-not-is_word-clause-read t c =
    let found = c.args.found.now.items in
    let is = literal_is c.args.part c.args.text.now c.args.item.now c.in-List.list c.deref.result.now c.in-List.is c.deref.ensures.value c.in-Some.first.now c.in-Some.rest.now c.in-Word-first.head c.in-Some.ensures.cases.0 c.in-Word-first.is (sym c.if-not-is_word.true ∙ c.is_word.ensures) in
    let pushed : c.push.new.self.items ≡ found ++ c.in_ok-literal.field-0 ∷ [] = c.in_ok-push.ensures.items in
    ap (behind found) (is ∙ c.in_ok-literal.ensures.read) ∙ ap Ok (sym pushed)

pub loop-item-init : goal.loop-item-init
loop-item-init t c =
    let text = c.args.text.now in
    let over = list_over text c.args.item.now c.in-List.list c.deref.result.now c.in-List.is c.deref.ensures.value c.requires in
    let is = and_in c.args.part text c.args.item.now c.in-List.list c.deref.result.now c.in-List.is c.deref.ensures.value c.in-Some.first.now c.in-Some.rest.now c.in-Word-first.head c.in-Some.ensures.cases.0 c.in-Word-first.is (sym c.if-not-is_word.false ∙ c.is_word.ensures) in
    record {
      over = (over_first text c.in-Some.first.now c.in-Some.rest.now (subst (AreItemsOver text) c.in-Some.ensures.cases.0 over)).1;
      same = ap (behind c.args.found.now.items) (sym is);
    }

pub add_condition-requires : goal.add_condition-requires
add_condition-requires t c = (
  search (rules, the_lemmas),
  (next_over c.args.text.now c.in-Some.rest.now c.loop-item.item-index c.item-item.result (omega arith) c.item-item.is c.loop-item.invariant.over).0,
)

pub returns-in_err-add_condition-clause-fault : goal.returns-in_err-add_condition-clause-fault
returns-in_err-add_condition-clause-fault t c =
    let whole = condition_at c.args.part (form_at c.args.text.now c.args.item.now) in
    let fault = c.in_err-add_condition.field-0.0 in
    let at = next_condition_fault c.args.part c.args.text.now c.in-Some.rest.now c.loop-item.item-index c.item-item.result (omega arith) c.item-item.is c.loop-item.found.items fault in
    fault_passes (condition_at c.args.part (form_at c.args.text.now c.item-item.result)) whole c.from_residual-in_err-add_condition.result fault c.from_residual-in_err-add_condition.ensures.1 c.in_err-add_condition.ensures.fault
    (λ e. behind-fault c.args.found.now.items whole fault (sym c.loop-item.invariant.same ∙ at e))

pub loop-item-preserved : goal.loop-item-preserved
loop-item-preserved t c =
    let text = c.args.text.now in
    let rest = c.in-Some.rest.now in
    record {
      over = (next_over text rest c.loop-item.item-index c.item-item.result (omega arith) c.item-item.is c.loop-item.invariant.over).1;
      same = sym (next_condition c.args.part text rest c.loop-item.item-index c.item-item.result (omega arith) c.item-item.is c.loop-item.found.items c.add_condition.new.found.items c.in_ok-add_condition.ensures.read) ∙ c.loop-item.invariant.same;
    }

pub returns-clause-read : goal.returns-clause-read
returns-clause-read t c =
    let found = c.loop-item.found.items in
    sym c.loop-item.invariant.same
    ∙ ap (λ more. behind found (conditions_at c.args.part (forms_of (forms_at c.args.text.now more)))) (drop_all c.loop-item.item-index c.in-Some.rest.now c.loop-item-test.false)
    ∙ ap Ok (append-nil found)
