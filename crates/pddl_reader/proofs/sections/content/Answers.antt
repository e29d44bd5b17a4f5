use Rattle.std.proofs.Common.{[], Ok, inr, ap, ◌∙◌}
use Rattle.pddl_reader.specs.Items.{forms_at}
use Rattle.pddl_reader.specs.Kinds.{Names, Start}
use Rattle.pddl_reader.specs.Reading.{and_then, each_at, typed_from, atom_at, predicate_at, action_in, requirement_at, one_name, one_form, content_in}
use Rattle.pddl_reader.specs.Sections.{HasRequirements, HasTypes, HasConstants, HasPredicates, HasAction, HasDomain, HasObjects, HasInit, HasGoal}
use Rattle.pddl_reader.proofs.ReadLemmas.{fault_passes}
use Rattle.pddl_reader.proofs.sections.content.Goals as goal

pub returns-in_err-requirements-in-Requirements-clause-fault : goal.returns-in_err-requirements-in-Requirements-clause-fault
returns-in_err-requirements-in-Requirements-clause-fault c =
    let forms = forms_at c.args.text.now c.args.items.now in
    fault_passes (each_at requirement_at forms) (content_in c.args.kind c.args.at forms) c.from_residual.result c.in_err-requirements-in-Requirements.field-0.0 c.from_residual.ensures.1 c.in_err-requirements-in-Requirements.ensures.fault
    (λ e. ap (λ kind. content_in kind c.args.at forms) c.in-Requirements.is ∙ ap (λ r. and_then r (λ words. Ok HasRequirements)) e)

pub returns-in_ok-requirements-in-Requirements-clause-read : goal.returns-in_ok-requirements-in-Requirements-clause-read
returns-in_ok-requirements-in-Requirements-clause-read c =
    let forms = forms_at c.args.text.now c.args.items.now in
    ap (λ kind. content_in kind c.args.at forms) c.in-Requirements.is ∙ ap (λ r. and_then r (λ words. Ok HasRequirements)) c.in_ok-requirements-in-Requirements.ensures.read.1

pub returns-in_err-typed_list-in-Types-clause-fault : goal.returns-in_err-typed_list-in-Types-clause-fault
returns-in_err-typed_list-in-Types-clause-fault c =
    let forms = forms_at c.args.text.now c.args.items.now in
    fault_passes (typed_from Names c.args.at [] forms) (content_in c.args.kind c.args.at forms) c.from_residual-in_err-typed_list-in-Types.result c.in_err-typed_list-in-Types.field-0.0 c.from_residual-in_err-typed_list-in-Types.ensures.1 c.in_err-typed_list-in-Types.ensures.fault
    (λ e. ap (λ kind. content_in kind c.args.at forms) c.in-Types.is ∙ ap (λ r. and_then r (λ names. Ok (HasTypes names))) e)

pub returns-in_ok-typed_list-in-Types-clause-read : goal.returns-in_ok-typed_list-in-Types-clause-read
returns-in_ok-typed_list-in-Types-clause-read c =
    let forms = forms_at c.args.text.now c.args.items.now in
    ap (λ kind. content_in kind c.args.at forms) c.in-Types.is ∙ ap (λ r. and_then r (λ names. Ok (HasTypes names))) c.in_ok-typed_list-in-Types.ensures.read

pub returns-in_err-typed_list-in-Constants-clause-fault : goal.returns-in_err-typed_list-in-Constants-clause-fault
returns-in_err-typed_list-in-Constants-clause-fault c =
    let forms = forms_at c.args.text.now c.args.items.now in
    fault_passes (typed_from Names c.args.at [] forms) (content_in c.args.kind c.args.at forms) c.from_residual-in_err-typed_list-in-Constants.result c.in_err-typed_list-in-Constants.field-0.0 c.from_residual-in_err-typed_list-in-Constants.ensures.1 c.in_err-typed_list-in-Constants.ensures.fault
    (λ e. ap (λ kind. content_in kind c.args.at forms) c.in-Constants.is ∙ ap (λ r. and_then r (λ names. Ok (HasConstants names))) e)

pub returns-in_ok-typed_list-in-Constants-clause-read : goal.returns-in_ok-typed_list-in-Constants-clause-read
returns-in_ok-typed_list-in-Constants-clause-read c =
    let forms = forms_at c.args.text.now c.args.items.now in
    ap (λ kind. content_in kind c.args.at forms) c.in-Constants.is ∙ ap (λ r. and_then r (λ names. Ok (HasConstants names))) c.in_ok-typed_list-in-Constants.ensures.read

pub returns-in_err-predicates-in-Predicates-clause-fault : goal.returns-in_err-predicates-in-Predicates-clause-fault
returns-in_err-predicates-in-Predicates-clause-fault c =
    let forms = forms_at c.args.text.now c.args.items.now in
    fault_passes (each_at predicate_at forms) (content_in c.args.kind c.args.at forms) c.from_residual-in_err-predicates-in-Predicates.result c.in_err-predicates-in-Predicates.field-0.0 c.from_residual-in_err-predicates-in-Predicates.ensures.1 c.in_err-predicates-in-Predicates.ensures.fault
    (λ e. ap (λ kind. content_in kind c.args.at forms) c.in-Predicates.is ∙ ap (λ r. and_then r (λ predicates. Ok (HasPredicates predicates))) e)

pub returns-in_ok-predicates-in-Predicates-clause-read : goal.returns-in_ok-predicates-in-Predicates-clause-read
returns-in_ok-predicates-in-Predicates-clause-read c =
    let forms = forms_at c.args.text.now c.args.items.now in
    ap (λ kind. content_in kind c.args.at forms) c.in-Predicates.is ∙ ap (λ r. and_then r (λ predicates. Ok (HasPredicates predicates))) c.in_ok-predicates-in-Predicates.ensures.read

pub returns-in_err-action-in-Action-clause-fault : goal.returns-in_err-action-in-Action-clause-fault
returns-in_err-action-in-Action-clause-fault c =
    let forms = forms_at c.args.text.now c.args.items.now in
    fault_passes (action_in c.args.at forms) (content_in c.args.kind c.args.at forms) c.from_residual-in_err-action-in-Action.result c.in_err-action-in-Action.field-0.0 c.from_residual-in_err-action-in-Action.ensures.1 c.in_err-action-in-Action.ensures.fault
    (λ e. ap (λ kind. content_in kind c.args.at forms) c.in-Action.is ∙ ap (λ r. and_then r (λ action. Ok (HasAction action))) e)

pub returns-in_ok-action-in-Action-clause-read : goal.returns-in_ok-action-in-Action-clause-read
returns-in_ok-action-in-Action-clause-read c =
    let forms = forms_at c.args.text.now c.args.items.now in
    ap (λ kind. content_in kind c.args.at forms) c.in-Action.is ∙ ap (λ r. and_then r (λ action. Ok (HasAction action))) c.in_ok-action-in-Action.ensures.read

pub returns-in_err-one_name-in-Domain-clause-fault : goal.returns-in_err-one_name-in-Domain-clause-fault
returns-in_err-one_name-in-Domain-clause-fault c =
    let forms = forms_at c.args.text.now c.args.items.now in
    fault_passes (one_name c.args.at forms) (content_in c.args.kind c.args.at forms) c.from_residual-in_err-one_name-in-Domain.result c.in_err-one_name-in-Domain.field-0.0 c.from_residual-in_err-one_name-in-Domain.ensures.1 c.in_err-one_name-in-Domain.ensures.fault
    (λ e. ap (λ kind. content_in kind c.args.at forms) c.in-Domain.is ∙ ap (λ r. and_then r (λ name. Ok (HasDomain name))) e)

pub returns-in_ok-one_name-in-Domain-clause-read : goal.returns-in_ok-one_name-in-Domain-clause-read
returns-in_ok-one_name-in-Domain-clause-read c =
    let forms = forms_at c.args.text.now c.args.items.now in
    ap (λ kind. content_in kind c.args.at forms) c.in-Domain.is ∙ ap (λ r. and_then r (λ name. Ok (HasDomain name))) c.in_ok-one_name-in-Domain.ensures.read

pub returns-in_err-typed_list-in-Objects-clause-fault : goal.returns-in_err-typed_list-in-Objects-clause-fault
returns-in_err-typed_list-in-Objects-clause-fault c =
    let forms = forms_at c.args.text.now c.args.items.now in
    fault_passes (typed_from Names c.args.at [] forms) (content_in c.args.kind c.args.at forms) c.from_residual-in_err-typed_list-in-Objects.result c.in_err-typed_list-in-Objects.field-0.0 c.from_residual-in_err-typed_list-in-Objects.ensures.1 c.in_err-typed_list-in-Objects.ensures.fault
    (λ e. ap (λ kind. content_in kind c.args.at forms) c.in-Objects.is ∙ ap (λ r. and_then r (λ names. Ok (HasObjects names))) e)

pub returns-in_ok-typed_list-in-Objects-clause-read : goal.returns-in_ok-typed_list-in-Objects-clause-read
returns-in_ok-typed_list-in-Objects-clause-read c =
    let forms = forms_at c.args.text.now c.args.items.now in
    ap (λ kind. content_in kind c.args.at forms) c.in-Objects.is ∙ ap (λ r. and_then r (λ names. Ok (HasObjects names))) c.in_ok-typed_list-in-Objects.ensures.read

pub returns-in_err-start_atoms-in-Init-clause-fault : goal.returns-in_err-start_atoms-in-Init-clause-fault
returns-in_err-start_atoms-in-Init-clause-fault c =
    let forms = forms_at c.args.text.now c.args.items.now in
    fault_passes (each_at (atom_at Start) forms) (content_in c.args.kind c.args.at forms) c.from_residual-in_err-start_atoms-in-Init.result c.in_err-start_atoms-in-Init.field-0.0 c.from_residual-in_err-start_atoms-in-Init.ensures.1 c.in_err-start_atoms-in-Init.ensures.fault
    (λ e. ap (λ kind. content_in kind c.args.at forms) c.in-Init.is ∙ ap (λ r. and_then r (λ atoms. Ok (HasInit atoms))) e)

pub returns-in_ok-start_atoms-in-Init-clause-read : goal.returns-in_ok-start_atoms-in-Init-clause-read
returns-in_ok-start_atoms-in-Init-clause-read c =
    let forms = forms_at c.args.text.now c.args.items.now in
    ap (λ kind. content_in kind c.args.at forms) c.in-Init.is ∙ ap (λ r. and_then r (λ atoms. Ok (HasInit atoms))) c.in_ok-start_atoms-in-Init.ensures.read

pub returns-in_err-one_form-in-Goal-clause-fault : goal.returns-in_err-one_form-in-Goal-clause-fault
returns-in_err-one_form-in-Goal-clause-fault c =
    let forms = forms_at c.args.text.now c.args.items.now in
    fault_passes (one_form c.args.at forms) (content_in c.args.kind c.args.at forms) c.from_residual-in_err-one_form-in-Goal.result c.in_err-one_form-in-Goal.field-0.0 c.from_residual-in_err-one_form-in-Goal.ensures.1
    (inr (c.in_err-one_form-in-Goal.ensures.fault c.args.text.now))
    (λ e. ap (λ kind. content_in kind c.args.at forms) c.in-Goal.is ∙ ap (λ r. and_then r (λ f. Ok HasGoal)) e)

pub returns-in_ok-one_form-in-Goal-clause-read : goal.returns-in_ok-one_form-in-Goal-clause-read
returns-in_ok-one_form-in-Goal-clause-read c =
    let forms = forms_at c.args.text.now c.args.items.now in
    let read = c.in_ok-one_form-in-Goal.ensures.read c.args.text.now in
    ap (λ kind. content_in kind c.args.at forms) c.in-Goal.is ∙ ap (λ r. and_then r (λ f. Ok HasGoal)) read.1
