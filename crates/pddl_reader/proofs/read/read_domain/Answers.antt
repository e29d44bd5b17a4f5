use Rattle.std.proofs.Common.{length, arith, inr, sym, ap, ◌∙◌, subst}
use Rattle.std.proofs.lemmas.List.{length-map}
use Rattle.std.proofs.lemmas.Result.{IfOk-weaker}
use Rattle.pddl_reader.specs.declared.kinds.Document.TheVariants.{Domain as OfDomain}
use Rattle.pddl_reader.specs.Faults.{IsDocumentFault}
use Rattle.pddl_reader.specs.Forms.{form_of, form_at}
use Rattle.pddl_reader.specs.Items.{forms_at}
use Rattle.pddl_reader.specs.Reading.{domain_in}
use Rattle.pddl_reader.specs.Spelling.{IsDomain}
use Rattle.pddl_reader.proofs.Counts.{few_actions}
use Rattle.pddl_reader.proofs.DocumentLaws.{domain_spells, domain_reads, domain_faults}
use Rattle.pddl_reader.proofs.DocumentFails.{domain_fails}
use Rattle.pddl_reader.proofs.FormFaults.{on_domain}
use Rattle.pddl_reader.proofs.TextFaults.{passed_exactly, if_left, answered_exactly}
use Rattle.pddl_reader.proofs.TextLemmas.{passed_memory, passed_fault, if_read, tree_form, answered, answered_fault}
use Rattle.pddl_reader.proofs.read.read_domain.Goals as goal

pub returns-in_err-list-clause-fault : goal.returns-in_err-list-clause-fault
returns-in_err-list-clause-fault c = passed_fault OfDomain c.args.text.now c.from_residual.result c.in_err-list.field-0.0 c.from_residual.ensures.1 c.in_err-list.ensures.fault

pub returns-in_err-list-clause-exactly : goal.returns-in_err-list-clause-exactly
returns-in_err-list-clause-exactly c = λ value h. inr (passed_memory c.from_residual.result c.in_err-list.field-0.0 c.from_residual.ensures.1 (c.in_err-list.ensures.only h.form h.is_form))

pub returns-in_err-list-clause-fault_exactly : goal.returns-in_err-list-clause-fault_exactly
returns-in_err-list-clause-fault_exactly c = λ f h. passed_exactly c.from_residual.result c.in_err-list.field-0.0 f c.from_residual.ensures.1 (c.in_err-list.ensures.fault_exactly OfDomain f h)

pub returns-clause-spelled : goal.returns-clause-spelled
returns-clause-spelled c =
    let text = c.args.text.now in
    let list = c.in_ok-list.list in
    let forms = forms_at text c.deref.result.now in
    IfOk-weaker c.domain.result _ _
    (λ value e. record {
      form = form_of text list;
      is_form = c.in_ok-list.ensures.form;
      is_domain = subst (λ form. IsDomain form value) (sym (tree_form text list c.deref.result.now c.deref.ensures.value)) (domain_spells list.at forms value e);
    })
    c.domain.ensures.read

pub returns-clause-few_actions : goal.returns-clause-few_actions
returns-clause-few_actions c =
    let text = c.args.text.now in
    let list = c.in_ok-list.list in
    let forms = forms_at text c.deref.result.now in
    let counts = length-map c.deref.result.now (form_at text) in
    let items = ap length c.deref.ensures.value in
    IfOk-weaker c.domain.result _ _
    (λ d e. let fewer = few_actions list.at forms d (domain_spells list.at forms d e) in omega (arith, c.in_ok-list.ensures.few))
    c.domain.ensures.read

pub returns-clause-fault : goal.returns-clause-fault
returns-clause-fault c =
    let text = c.args.text.now in
    let list = c.in_ok-list.list in
    let forms = forms_at text c.deref.result.now in
    answered_fault OfDomain text (form_of text list) (domain_in list.at forms) c.domain.result c.in_ok-list.ensures.form (on_domain list.at forms)
    (λ fault e. subst (λ form. IsDocumentFault OfDomain form fault) (sym (tree_form text list c.deref.result.now c.deref.ensures.value)) (domain_faults list.at forms fault e))
    c.domain.ensures.fault

pub returns-clause-exactly : goal.returns-clause-exactly
returns-clause-exactly c = λ value h.
    let text = c.args.text.now in
    let list = c.in_ok-list.list in
    let forms = forms_at text c.deref.result.now in
    let same = if_read list _ (c.in_ok-list.ensures.only h.form h.is_form) ∙ tree_form text list c.deref.result.now c.deref.ensures.value in
    answered (domain_in list.at forms) c.domain.result value c.domain.ensures.read c.domain.ensures.fault (domain_reads list.at forms value (subst (λ form. IsDomain form value) same h.is_domain))

pub returns-clause-fault_exactly : goal.returns-clause-fault_exactly
returns-clause-fault_exactly c = λ f h.
    let text = c.args.text.now in
    let list = c.in_ok-list.list in
    let forms = forms_at text c.deref.result.now in
    let bad = if_left list _ _ (c.in_ok-list.ensures.fault_exactly OfDomain f h) in
    answered_exactly (domain_in list.at forms) c.domain.result f c.domain.ensures.read c.domain.ensures.fault
    (domain_fails list.at forms f (subst (λ form. IsDocumentFault OfDomain form f) (tree_form text list c.deref.result.now c.deref.ensures.value) bad))
