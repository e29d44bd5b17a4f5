use Rattle.std.proofs.Common.{◌≡◌, ◌∙◌, List, [], ◌++◌, map, sym, ap, subst}
use mathlib.Core.Path.{ap₂}
use Rattle.std.specs.Prelude.{All, IfOk}
use Rattle.std.proofs.lemmas.Result.{IfErr-weaker, on_ok_weaker}
use Rattle.grd_base.specs.declared.roles.FileRole.TheVariants.{Problem}
use Rattle.pddl_reader.specs.Values.{PlainTypedName, PlainDomain, PlainProblem}
use Rattle.type_check.specs.Types.{names_of}
use Rattle.type_check.specs.Checks.{Passes}
use Rattle.type_check.specs.Rules.{all_objects, problem_checks}
use Rattle.type_check.specs.Tables.{HasFault, HaveKnownTypes}
use Rattle.type_check.specs.Scopes.{PlainScope, object_in, atom_in}
use Rattle.type_check.specs.Parts.{names_rules, literals_rules}
use Rattle.type_check.proofs.FirstFaults.{fault_passes}
use Rattle.type_check.proofs.KnownTypes.{known_types, known_none, known_append}
use Rattle.type_check.proofs.ProblemLaws.{domain_fault, objects_fault, count_fault, atoms_fault, problem_passes}
use Rattle.type_check.proofs.problem.checked_problem.Goals as goal

-- the scope of the initial atoms
scope_is : (e d : PlainDomain) (p : PlainProblem) (parameters objects constants read : List PlainTypedName)
    → e ≡ d → parameters ≡ [] → objects ≡ constants ++ read → constants ≡ d.constants → read ≡ p.objects
    → ◌≡◌ {A = PlainScope} (record { file = Problem; domain = e; parameters = parameters; objects = objects }) (record { file = Problem; domain = d; parameters = []; objects = all_objects d p })
scope_is e d p parameters objects constants read same none behind same_constants same_read =
    ap (λ f. let s : PlainScope = record { file = Problem; domain = f; parameters = parameters; objects = objects } in s) same
    ∙ ap₂ (λ ps os. let s : PlainScope = record { file = Problem; domain = d; parameters = ps; objects = os } in s) none
    (behind ∙ ap₂ (λ front back. front ++ back) same_constants same_read)

-- the objects are typed, said of the problem
typed_of : (e d : PlainDomain) (p : PlainProblem) (constants read : List PlainTypedName) → e ≡ d → constants ≡ d.constants → read ≡ p.objects
    → All (Passes e) (names_rules Problem e (names_of constants) read) → All (Passes d) (names_rules Problem d (names_of d.constants) p.objects)
typed_of e d p constants read same same_constants same_read h =
    subst (λ os. All (Passes d) (names_rules Problem d (names_of d.constants) os)) same_read
    (subst (λ cs. All (Passes d) (names_rules Problem d (names_of cs) read)) same_constants
    (subst (λ f. All (Passes f) (names_rules Problem f (names_of constants) read)) same h))

pub returns-in_err-check_domain-clause-fault : goal.returns-in_err-check_domain-clause-fault
returns-in_err-check_domain-clause-fault c =
    let d = c.args.domain.now in
    let p = c.args.problem.now in
    let fault = c.in_err-check_domain.field-0.0 in
    fault_passes d (problem_checks d p) c.from_residual.result fault c.from_residual.ensures.1 (domain_fault d p fault c.in_err-check_domain.ensures.fault)

pub returns-in_err-objects-clause-fault : goal.returns-in_err-objects-clause-fault
returns-in_err-objects-clause-fault c =
    let d = c.args.domain.now in
    let p = c.args.problem.now in
    let fault = c.in_err-objects.field-0.0 in
    let same_read = c.deref.ensures.value ∙ ap (λ (q : PlainProblem). q.objects) c.problem.view_is in
    fault_passes d (problem_checks d p) c.from_residual-in_err-objects.result fault c.from_residual-in_err-objects.ensures.1
    (objects_fault d p c.in_ok-check_domain.ensures.passed fault
    (subst (λ os. HasFault d (names_rules Problem d (names_of d.constants) os) fault) same_read
    (subst (λ cs. HasFault d (names_rules Problem d (names_of cs) c.deref.result.now) fault) c.requires.constants
    (subst (λ f. HasFault f (names_rules Problem f (names_of c.args.constants) c.deref.result.now) fault) c.requires.types c.in_err-objects.ensures.fault))))

pub returns-in_err-check_count-clause-fault : goal.returns-in_err-check_count-clause-fault
returns-in_err-check_count-clause-fault c =
    let d = c.args.domain.now in
    let p = c.args.problem.now in
    let fault = c.in_err-check_count.field-0.0 in
    let same_read = c.deref.ensures.value ∙ ap (λ (q : PlainProblem). q.objects) c.problem.view_is in
    fault_passes d (problem_checks d p) c.from_residual-in_err-check_count.result fault c.from_residual-in_err-check_count.ensures.1
    (count_fault d p c.in_ok-check_domain.ensures.passed
    (typed_of c.args.types.now d p c.args.constants c.deref.result.now c.requires.types c.requires.constants same_read c.in_ok-objects.ensures.passed)
    fault c.in_err-check_count.ensures.fault)

pub invariant_of-scope : goal.invariant_of-scope
invariant_of-scope c =
    let e = c.args.types.now in
    let known_constants : HaveKnownTypes e c.args.constants = subst (λ f. HaveKnownTypes f c.args.constants) (sym c.requires.types) c.requires.known in
    let known_objects = known_types e Problem (names_of c.args.constants) c.deref.result.now c.in_ok-objects.ensures.passed in (
      c.requires.predicates,
      subst (HaveKnownTypes e) (sym c.new-no_parameters.ensures) (known_none e),
      subst (HaveKnownTypes e) (sym c.in_ok-objects.ensures.declared) (known_append e c.args.constants c.deref.result.now known_constants known_objects),
    )

pub returns-clause-ground : goal.returns-clause-ground
unfolding atom_in object_in
returns-clause-ground c =
    let e = c.args.types.now in
    let d = c.args.domain.now in
    let p = c.args.problem.now in
    let s : PlainScope = record { file = Problem; domain = e; parameters = c.new-no_parameters.result; objects = c.in_ok-objects.objects } in
    let same_read = c.deref.ensures.value ∙ ap (λ (q : PlainProblem). q.objects) c.problem.view_is in
    let same_init = c.deref-2.ensures.value ∙ ap (λ (q : PlainProblem). q.init) c.problem.view_is in
    let scope = scope_is e d p c.new-no_parameters.result c.in_ok-objects.objects c.args.constants c.deref.result.now c.requires.types c.new-no_parameters.ensures c.in_ok-objects.ensures.declared c.requires.constants same_read in
    subst (λ (t : PlainScope). IfOk c.ground_atoms.result (λ atoms. atoms.items ≡ map (atom_in t) p.init)) scope
    (subst (λ ls. IfOk c.ground_atoms.result (λ atoms. atoms.items ≡ map (atom_in s) ls)) same_init c.ground_atoms.ensures.ground)

pub returns-clause-passed : goal.returns-clause-passed
returns-clause-passed c =
    let e = c.args.types.now in
    let d = c.args.domain.now in
    let p = c.args.problem.now in
    let s : PlainScope = record { file = Problem; domain = e; parameters = c.new-no_parameters.result; objects = c.in_ok-objects.objects } in
    let same_read = c.deref.ensures.value ∙ ap (λ (q : PlainProblem). q.objects) c.problem.view_is in
    let same_init = c.deref-2.ensures.value ∙ ap (λ (q : PlainProblem). q.init) c.problem.view_is in
    let scope = scope_is e d p c.new-no_parameters.result c.in_ok-objects.objects c.args.constants c.deref.result.now c.requires.types c.new-no_parameters.ensures c.in_ok-objects.ensures.declared c.requires.constants same_read in
    on_ok_weaker c.ground_atoms.result
    (λ passed. problem_passes d p c.in_ok-check_domain.ensures.passed
    (typed_of e d p c.args.constants c.deref.result.now c.requires.types c.requires.constants same_read c.in_ok-objects.ensures.passed)
    c.in_ok-check_count.ensures.passed
    (subst (λ (t : PlainScope). All (Passes t.domain) (literals_rules t p.init)) scope
    (subst (λ ls. All (Passes e) (literals_rules s ls)) same_init passed)))
    c.ground_atoms.ensures.passed

pub returns-clause-fault : goal.returns-clause-fault
returns-clause-fault c =
    let e = c.args.types.now in
    let d = c.args.domain.now in
    let p = c.args.problem.now in
    let s : PlainScope = record { file = Problem; domain = e; parameters = c.new-no_parameters.result; objects = c.in_ok-objects.objects } in
    let same_read = c.deref.ensures.value ∙ ap (λ (q : PlainProblem). q.objects) c.problem.view_is in
    let same_init = c.deref-2.ensures.value ∙ ap (λ (q : PlainProblem). q.init) c.problem.view_is in
    let scope = scope_is e d p c.new-no_parameters.result c.in_ok-objects.objects c.args.constants c.deref.result.now c.requires.types c.new-no_parameters.ensures c.in_ok-objects.ensures.declared c.requires.constants same_read in
    IfErr-weaker c.ground_atoms.result (HasFault e (literals_rules s c.deref-2.result.now)) (HasFault d (problem_checks d p))
    (λ fault has. atoms_fault d p c.in_ok-check_domain.ensures.passed
    (typed_of e d p c.args.constants c.deref.result.now c.requires.types c.requires.constants same_read c.in_ok-objects.ensures.passed)
    c.in_ok-check_count.ensures.passed fault
    (subst (λ (t : PlainScope). HasFault t.domain (literals_rules t p.init) fault) scope
    (subst (λ ls. HasFault e (literals_rules s ls) fault) same_init has)))
    c.ground_atoms.ensures.fault
