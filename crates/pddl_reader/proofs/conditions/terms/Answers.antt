use Rattle.std.proofs.Common.{◌+◌, [], ◌∷◌, map, drop, sym, ap, ◌∙◌, arith}
use Rattle.std.proofs.lemmas.List.{map-append}
use Rattle.pddl_reader.specs.Forms.{form_at}
use Rattle.pddl_reader.specs.Items.{forms_at}
use Rattle.pddl_reader.specs.Terms.{plain_term}
use Rattle.pddl_reader.specs.Reading.{each_at, term_at}
use Rattle.pddl_reader.specs.Steps.{behind}
use Rattle.pddl_reader.proofs.ReadLemmas.{fault_passes, next_over, next_read, next_fault}
use Rattle.pddl_reader.proofs.conditions.terms.Goals as goal

pub term-requires : goal.term-requires
term-requires c = (next_over c.args.text.now c.args.items.now c.loop-item.item-index c.item-item.result (omega arith) c.item-item.is c.loop-item.invariant.over).0

pub returns-in_err-term-clause-fault : goal.returns-in_err-term-clause-fault
returns-in_err-term-clause-fault c =
    let text = c.args.text.now in
    let read = term_at c.args.part in
    fault_passes (read (form_at text c.item-item.result)) (each_at read (forms_at text c.args.items.now)) c.from_residual.result c.in_err-term.field-0.0 c.from_residual.ensures.1 c.in_err-term.ensures.fault
    (λ e. sym c.loop-item.invariant.same ∙ next_fault text c.args.items.now c.loop-item.item-index c.item-item.result (omega arith) c.item-item.is read (map plain_term c.loop-item.terms.items) c.in_err-term.field-0.0 e)

pub loop-item-preserved : goal.loop-item-preserved
loop-item-preserved c =
    let text = c.args.text.now in
    let items = c.args.items.now in
    let i = c.loop-item.item-index in
    let read = term_at c.args.part in
    let before = c.loop-item.terms.items in
    let rest = each_at read (forms_at text (drop (i + 1) items)) in
    record {
      over = (next_over text items i c.item-item.result (omega arith) c.item-item.is c.loop-item.invariant.over).1;
      same =
          ap (λ terms. behind (map plain_term terms) rest) c.in_ok-push.ensures.items
          ∙ ap (λ terms. behind terms rest) (map-append plain_term before (c.in_ok-term.field-0 ∷ []))
          ∙ sym (next_read text items i c.item-item.result (omega arith) c.item-item.is read (map plain_term before) (plain_term c.in_ok-term.field-0) c.in_ok-term.ensures.read)
          ∙ c.loop-item.invariant.same;
    }
