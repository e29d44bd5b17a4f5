use Rattle.std.proofs.Common.{◌∙◌, ap, sym, subst, inr, Err}
use Rattle.pddl_reader.specs.Forms.{form_at}
use Rattle.pddl_reader.specs.Items.{AreItemsOver, forms_at}
use Rattle.pddl_reader.specs.Reading.{atom_at, negation_in}
use Rattle.pddl_reader.specs.declared.faults.PddlFault.TheVariants.{Shape}
use Rattle.pddl_reader.proofs.ItemLemmas.{over_first, same_place}
use Rattle.pddl_reader.proofs.ConditionSteps.{negation_fault, second_item}
use Rattle.pddl_reader.proofs.ListLemmas.{no_forms}
use Rattle.pddl_reader.proofs.ReadLemmas.{fault_passes}
use Rattle.pddl_reader.proofs.conditions.negation.Goals as goal

pub atom-requires : goal.atom-requires
atom-requires c = (over_first c.args.text.now c.in-Some.first.now c.in-Some.rest.now (subst (AreItemsOver c.args.text.now) c.in-Some.ensures.cases.0 c.requires)).0

pub returns-in-Some-first-clause-fault : goal.returns-in-Some-first-clause-fault
returns-in-Some-first-clause-fault c =
    inr (second_item c.args.part c.args.text.now c.args.at c.args.items.now c.in-Some.first.now c.in-Some.rest.now c.in-Some-first.second.now c.in-Some.ensures.cases.0 c.in-Some-first.ensures.value _ c.in_ok-atom.ensures.read
    ∙ ap (λ at. Err (Shape at)) (sym (c.place.ensures ∙ same_place c.args.text.now c.in-Some-first.second.now)))

pub returns-in_default-clause-fault : goal.returns-in_default-clause-fault
returns-in_default-clause-fault c = inr (ap (negation_in c.args.part c.args.at) (no_forms c.args.text.now c.args.items.now c.in_default.ensures.cases))

pub returns-in_err-atom-clause-fault : goal.returns-in_err-atom-clause-fault
returns-in_err-atom-clause-fault c =
    let text = c.args.text.now in
    let first = form_at text c.in-Some.first.now in
    let fault = c.in_err-atom.field-0.0 in
    fault_passes (atom_at c.args.part first) (negation_in c.args.part c.args.at (forms_at text c.args.items.now)) c.from_residual.result fault c.from_residual.ensures.1 c.in_err-atom.ensures.fault
    (λ e. ap (λ items. negation_in c.args.part c.args.at (forms_at text items)) c.in-Some.ensures.cases.0 ∙ negation_fault c.args.part c.args.at first (forms_at text c.in-Some.rest.now) fault e)
