use Rattle.std.proofs.Common.{inr, sym, ◌∙◌, subst}
use Rattle.std.proofs.lemmas.Result.{IfOk-weaker}
use Rattle.pddl_reader.specs.declared.kinds.Document.TheVariants.{Problem as OfProblem}
use Rattle.pddl_reader.specs.Faults.{IsDocumentFault}
use Rattle.pddl_reader.specs.Forms.{form_of}
use Rattle.pddl_reader.specs.Items.{forms_at}
use Rattle.pddl_reader.specs.Reading.{problem_in}
use Rattle.pddl_reader.specs.Spelling.{IsProblem}
use Rattle.pddl_reader.proofs.DocumentLaws.{problem_spells, problem_reads, problem_faults}
use Rattle.pddl_reader.proofs.DocumentFails.{problem_fails}
use Rattle.pddl_reader.proofs.FormFaults.{on_problem}
use Rattle.pddl_reader.proofs.TextFaults.{passed_exactly, if_left, answered_exactly}
use Rattle.pddl_reader.proofs.TextLemmas.{passed_memory, passed_fault, if_read, tree_form, answered, answered_fault}
use Rattle.pddl_reader.proofs.read.read_problem.Goals as goal

pub returns-in_err-list-clause-fault : goal.returns-in_err-list-clause-fault
returns-in_err-list-clause-fault c = passed_fault OfProblem c.args.text.now c.from_residual.result c.in_err-list.field-0.0 c.from_residual.ensures.1 c.in_err-list.ensures.fault

pub returns-in_err-list-clause-exactly : goal.returns-in_err-list-clause-exactly
returns-in_err-list-clause-exactly c = λ value h. inr (passed_memory c.from_residual.result c.in_err-list.field-0.0 c.from_residual.ensures.1 (c.in_err-list.ensures.only h.form h.is_form))

pub returns-in_err-list-clause-fault_exactly : goal.returns-in_err-list-clause-fault_exactly
returns-in_err-list-clause-fault_exactly c = λ f h. passed_exactly c.from_residual.result c.in_err-list.field-0.0 f c.from_residual.ensures.1 (c.in_err-list.ensures.fault_exactly OfProblem f h)

pub returns-clause-spelled : goal.returns-clause-spelled
returns-clause-spelled c =
    let text = c.args.text.now in
    let list = c.in_ok-list.list in
    let forms = forms_at text c.deref.result.now in
    IfOk-weaker c.problem.result _ _
    (λ value e. record {
      form = form_of text list;
      is_form = c.in_ok-list.ensures.form;
      is_problem = subst (λ form. IsProblem form value) (sym (tree_form text list c.deref.result.now c.deref.ensures.value)) (problem_spells list.at forms value e);
    })
    c.problem.ensures.read

pub returns-clause-fault : goal.returns-clause-fault
returns-clause-fault c =
    let text = c.args.text.now in
    let list = c.in_ok-list.list in
    let forms = forms_at text c.deref.result.now in
    answered_fault OfProblem text (form_of text list) (problem_in list.at forms) c.problem.result c.in_ok-list.ensures.form (on_problem list.at forms)
    (λ fault e. subst (λ form. IsDocumentFault OfProblem form fault) (sym (tree_form text list c.deref.result.now c.deref.ensures.value)) (problem_faults list.at forms fault e))
    c.problem.ensures.fault

pub returns-clause-exactly : goal.returns-clause-exactly
returns-clause-exactly c = λ value h.
    let text = c.args.text.now in
    let list = c.in_ok-list.list in
    let forms = forms_at text c.deref.result.now in
    let same = if_read list _ (c.in_ok-list.ensures.only h.form h.is_form) ∙ tree_form text list c.deref.result.now c.deref.ensures.value in
    answered (problem_in list.at forms) c.problem.result value c.problem.ensures.read c.problem.ensures.fault (problem_reads list.at forms value (subst (λ form. IsProblem form value) same h.is_problem))

pub returns-clause-fault_exactly : goal.returns-clause-fault_exactly
returns-clause-fault_exactly c = λ f h.
    let text = c.args.text.now in
    let list = c.in_ok-list.list in
    let forms = forms_at text c.deref.result.now in
    let bad = if_left list _ _ (c.in_ok-list.ensures.fault_exactly OfProblem f h) in
    answered_exactly (problem_in list.at forms) c.problem.result f c.problem.ensures.read c.problem.ensures.fault
    (problem_fails list.at forms f (subst (λ form. IsDocumentFault OfProblem form f) (tree_form text list c.deref.result.now c.deref.ensures.value) bad))
