use Rattle.std.proofs.Common.{◌≡◌, ◌+◌, false, [], ◌∷◌, drop, Ok, IfErr, sym, ap, ◌∙◌, subst, arith}
use Rattle.std.specs.Prelude.{IfOk}
use Rattle.std.proofs.lemmas.List.{drop_all}
use Rattle.pddl_reader.specs.Forms.{form_at}
use Rattle.pddl_reader.specs.Items.{forms_at, IsFaultOf}
use Rattle.pddl_reader.specs.Reading.{typed_from}
use Rattle.pddl_reader.specs.Steps.{behind}
use Rattle.pddl_reader.specs.TypedSteps.{typed_rest, typed_behind}
use Rattle.pddl_reader.proofs.ReadLemmas.{behind-nothing, fault_passes, drop-next, next_over}
use Rattle.pddl_reader.proofs.TypedReadings.{refused_at}
use Rattle.pddl_reader.proofs.typed.typed_list.Goals as goal

pub loop-item-init : goal.loop-item-init
loop-item-init c =
    let forms = forms_at c.args.text.now c.args.items.now in
    record {
      over = c.requires;
      same =
          ap (λ names. behind names (typed_rest c.args.listed c.args.at c.new-2.result.items false forms)) c.new.ensures.items
          ∙ behind-nothing (typed_rest c.args.listed c.args.at c.new-2.result.items false forms)
          ∙ ap (λ waiting. typed_from c.args.listed c.args.at waiting forms) c.new-2.ensures.items;
    }

pub take-requires : goal.take-requires
take-requires c = (next_over c.args.text.now c.args.items.now c.loop-item.item-index c.item-item.result (omega arith) c.item-item.is c.loop-item.invariant.over).0

pub returns-in_err-take-clause-fault : goal.returns-in_err-take-clause-fault
returns-in_err-take-clause-fault c =
    let text = c.args.text.now in
    let items = c.args.items.now in
    let i = c.loop-item.item-index in
    let f = form_at text c.item-item.result in
    let rest = forms_at text (drop (i + 1) items) in
    let read = typed_behind c.args.listed c.loop-item.reading c.args.at in
    let next = ap (λ more. read (forms_at text more)) (drop-next items i c.item-item.result (omega arith) c.item-item.is) in
    fault_passes (read (f ∷ rest)) (typed_from c.args.listed c.args.at [] (forms_at text items)) c.from_residual.result c.in_err-take.field-0.0 c.from_residual.ensures.1
    (refused_at c.args.listed c.loop-item.reading f c.in_err-take.field-0.0 c.in_err-take.ensures.refused c.args.at rest)
    (λ e. sym c.loop-item.invariant.same ∙ next ∙ e)

pub loop-item-preserved : goal.loop-item-preserved
loop-item-preserved c =
    let text = c.args.text.now in
    let items = c.args.items.now in
    let i = c.loop-item.item-index in
    let read = typed_behind c.args.listed c.loop-item.reading c.args.at in
    let next = ap (λ more. read (forms_at text more)) (drop-next items i c.item-item.result (omega arith) c.item-item.is) in
    record {
      over = (next_over text items i c.item-item.result (omega arith) c.item-item.is c.loop-item.invariant.over).1;
      same = sym (next ∙ c.in_ok-take.ensures.taken c.args.at (forms_at text (drop (i + 1) items))) ∙ c.loop-item.invariant.same;
    }

pub returns-clause-read : goal.returns-clause-read
returns-clause-read c =
    let end = ap (λ more. typed_behind c.args.listed c.loop-item.reading c.args.at (forms_at c.args.text.now more)) (drop_all c.loop-item.item-index c.args.items.now c.loop-item-test.false) in
    subst (λ read. IfOk c.end.result (λ names. read ≡ Ok names.items)) (sym end ∙ c.loop-item.invariant.same) (c.end.ensures.read c.args.listed)

pub returns-clause-fault : goal.returns-clause-fault
returns-clause-fault c =
    let end = ap (λ more. typed_behind c.args.listed c.loop-item.reading c.args.at (forms_at c.args.text.now more)) (drop_all c.loop-item.item-index c.args.items.now c.loop-item-test.false) in
    subst (λ read. IfErr c.end.result (IsFaultOf read)) (sym end ∙ c.loop-item.invariant.same) (c.end.ensures.fault c.args.listed)
