use Rattle.std.proofs.Common.{◌≡◌, ◌≤◌, ◌∙◌, ℕ, List, [], ◌∷◌, ◌++◌, Result, Ok, Err, length, map, sym, ap, subst}
use mathlib.Core.Path.{ap₂}
use Rattle.std.specs.Prelude.{All, IfOk}
use Rattle.std.proofs.lemmas.Result.{IfErr-weaker, on_ok_weaker}
use Rattle.grd_base.specs.declared.roles.FileRole.TheVariants.{Domain}
use Rattle.pddl_reader.specs.Forms.{Word}
use Rattle.pddl_reader.specs.Values.{PlainTypedName, PlainSchema, PlainDomain}
use Rattle.type_check.specs.declared.faults.CheckTypeFault.{CheckTypeFault}
use Rattle.type_check.specs.Types.{names_of}
use Rattle.type_check.specs.Checks.{Passes}
use Rattle.type_check.specs.Rules.{is_new, few_parameters, literals_of, schema_names}
use Rattle.type_check.specs.Tables.{HasFault, HaveKnownTypes, PlainLiterals, checked_schema}
use Rattle.type_check.specs.Scopes.{PlainScope, typed_in, typed_literal_in}
use Rattle.type_check.specs.Parts.{names_rules, action_rules, literals_rules}
use Rattle.type_check.proofs.FirstFaults.{fault_passes}
use Rattle.type_check.proofs.KnownTypes.{known_types}
use Rattle.type_check.proofs.ActionLaws.{name_fault, few_fault, parameters_fault, few_literals_fault, literals_fault, action_passes}
use Rattle.type_check.proofs.actions.checked_action.Goals as goal

-- what was found of the name and of the parameters, said of the action
module _ (d : PlainDomain) (before : List PlainSchema) (a : PlainSchema) (names : List (List ℕ)) (name : Word) (parameters : List PlainTypedName)
    (same_names : names ≡ schema_names before) (same_name : name ≡ a.name) (same_parameters : parameters ≡ a.parameters) where
  first_of : Passes d (is_new Domain names name) → Passes d (is_new Domain (schema_names before) a.name)
  first_of h = subst (λ ns. Passes d (is_new Domain ns a.name)) same_names (subst (λ n. Passes d (is_new Domain names n)) same_name h)

  few_of : length parameters ≤ 8 → Passes d (few_parameters a.parameters a.name)
  few_of h = subst (λ ps. length ps ≤ 8) same_parameters h

  typed_of : (old : List PlainTypedName) → old ≡ [] → All (Passes d) (names_rules Domain d (names_of old) parameters) → All (Passes d) (names_rules Domain d [] a.parameters)
  typed_of old none h =
      subst (λ ps. All (Passes d) (names_rules Domain d [] ps)) same_parameters
      (subst (λ os. All (Passes d) (names_rules Domain d (names_of os) parameters)) none h)

-- the scope of the literals
scope_is : (d : PlainDomain) (a : PlainSchema) (parameters old read constants : List PlainTypedName)
    → parameters ≡ old ++ read → old ≡ [] → read ≡ a.parameters → constants ≡ d.constants
    → ◌≡◌ {A = PlainScope} (record { file = Domain; domain = d; parameters = parameters; objects = constants }) (record { file = Domain; domain = d; parameters = a.parameters; objects = d.constants })
scope_is d a parameters old read constants behind none same same_constants =
    ap₂ (λ ps os. let s : PlainScope = record { file = Domain; domain = d; parameters = ps; objects = os } in s)
    (behind ∙ ap (λ os. os ++ read) none ∙ same) same_constants

schema_is : (r : Result PlainLiterals CheckTypeFault) (d : PlainDomain) (a : PlainSchema) (s : PlainScope)
    → s ≡ record { file = Domain; domain = d; parameters = a.parameters; objects = d.constants }
    → IfOk r (λ ls. ls.pre ≡ map (typed_literal_in s) a.pre) → IfOk r (λ ls. ls.effect ≡ map (typed_literal_in s) a.effect)
    → IfOk r (λ ls. ls ≡ checked_schema d a)
unfolding checked_schema typed_literal_in typed_in
schema_is (Err f) d a s is pre effect = tt
schema_is (Ok ls) d a s is pre effect =
    ap₂ (λ p e. let both : PlainLiterals = record { pre = p; effect = e } in both)
    (pre ∙ ap (λ t. map (typed_literal_in t) a.pre) is) (effect ∙ ap (λ t. map (typed_literal_in t) a.effect) is)

pub returns-in_err-add_new-clause-fault : goal.returns-in_err-add_new-clause-fault
returns-in_err-add_new-clause-fault c before same =
    let d = c.args.types.now in
    let a = c.args.action.now in
    let fault = c.in_err-add_new.field-0.0 in
    fault_passes d (action_rules d before a) c.from_residual.result fault c.from_residual.ensures.1
    (name_fault d before a fault
    (subst (λ (b : PlainSchema). HasFault d (is_new Domain (schema_names before) b.name ∷ []) fault) c.action.view_is
    (subst (λ names. HasFault d (is_new Domain names c.action.inside.name ∷ []) fault) same (c.in_err-add_new.ensures.fault d))))

pub returns-in_err-check_few-clause-fault : goal.returns-in_err-check_few-clause-fault
returns-in_err-check_few-clause-fault c before same =
    let d = c.args.types.now in
    let a = c.args.action.now in
    let fault = c.in_err-check_few.field-0.0 in
    let same_name = ap (λ (b : PlainSchema). b.name) c.action.view_is in
    let same_parameters = c.deref.ensures.value ∙ ap (λ (b : PlainSchema). b.parameters) c.action.view_is in
    fault_passes d (action_rules d before a) c.from_residual-in_err-check_few.result fault c.from_residual-in_err-check_few.ensures.1
    (few_fault d before a
    (first_of d before a c.args.names.now c.action.inside.name c.deref.result.now same same_name same_parameters (c.in_ok-add_new.ensures.passed d)) fault
    (subst (λ name. HasFault d (few_parameters a.parameters name ∷ []) fault) same_name
    (subst (λ ps. HasFault d (few_parameters ps c.action.inside.name ∷ []) fault) same_parameters (c.in_err-check_few.ensures.fault d))))

pub returns-in_err-parameters-clause-fault : goal.returns-in_err-parameters-clause-fault
returns-in_err-parameters-clause-fault c before same =
    let d = c.args.types.now in
    let a = c.args.action.now in
    let fault = c.in_err-parameters.field-0.0 in
    let same_name = ap (λ (b : PlainSchema). b.name) c.action.view_is in
    let same_parameters = c.deref.ensures.value ∙ ap (λ (b : PlainSchema). b.parameters) c.action.view_is in
    let same_read = c.deref-2.ensures.value ∙ ap (λ (b : PlainSchema). b.parameters) c.action.view_is in
    fault_passes d (action_rules d before a) c.from_residual-in_err-parameters.result fault c.from_residual-in_err-parameters.ensures.1
    (parameters_fault d before a
    (first_of d before a c.args.names.now c.action.inside.name c.deref.result.now same same_name same_parameters (c.in_ok-add_new.ensures.passed d))
    (few_of d before a c.args.names.now c.action.inside.name c.deref.result.now same same_name same_parameters c.in_ok-check_few.ensures.few) fault
    (subst (λ ps. HasFault d (names_rules Domain d [] ps) fault) same_read
    (subst (λ old. HasFault d (names_rules Domain d (names_of old) c.deref-2.result.now) fault) c.new.ensures c.in_err-parameters.ensures.fault)))

pub returns-in_err-check_few_literals-clause-fault : goal.returns-in_err-check_few_literals-clause-fault
returns-in_err-check_few_literals-clause-fault c before same =
    let d = c.args.types.now in
    let a = c.args.action.now in
    let fault = c.in_err-check_few_literals.field-0.0 in
    let same_name = ap (λ (b : PlainSchema). b.name) c.action.view_is in
    let same_parameters = c.deref.ensures.value ∙ ap (λ (b : PlainSchema). b.parameters) c.action.view_is in
    let same_read = c.deref-2.ensures.value ∙ ap (λ (b : PlainSchema). b.parameters) c.action.view_is in
    fault_passes d (action_rules d before a) c.from_residual-in_err-check_few_literals.result fault c.from_residual-in_err-check_few_literals.ensures.1
    (few_literals_fault d before a
    (first_of d before a c.args.names.now c.action.inside.name c.deref.result.now same same_name same_parameters (c.in_ok-add_new.ensures.passed d))
    (few_of d before a c.args.names.now c.action.inside.name c.deref.result.now same same_name same_parameters c.in_ok-check_few.ensures.few)
    (typed_of d before a c.args.names.now c.action.inside.name c.deref-2.result.now same same_name same_read c.new.result c.new.ensures c.in_ok-parameters.ensures.passed) fault
    (c.in_err-check_few_literals.ensures.fault d))

pub invariant_of-scope : goal.invariant_of-scope
invariant_of-scope c =
    let d = c.args.types.now in
    let known = known_types d Domain (names_of c.new.result) c.deref-2.result.now c.in_ok-parameters.ensures.passed in (
      c.requires.predicates,
      subst (HaveKnownTypes d) (ap (λ old. old ++ c.deref-2.result.now) (sym c.new.ensures) ∙ sym c.in_ok-parameters.ensures.declared) known,
      c.requires.known,
    )

pub returns-clause-checked : goal.returns-clause-checked
returns-clause-checked c =
    let d = c.args.types.now in
    let a = c.args.action.now in
    let s : PlainScope = record { file = Domain; domain = d; parameters = c.in_ok-parameters.parameters; objects = c.args.constants.now } in
    let same_read = c.deref-2.ensures.value ∙ ap (λ (b : PlainSchema). b.parameters) c.action.view_is in
    schema_is c.checked_literals.result d a s (scope_is d a c.in_ok-parameters.parameters c.new.result c.deref-2.result.now c.args.constants.now c.in_ok-parameters.ensures.declared c.new.ensures same_read c.requires.constants)
    c.checked_literals.ensures.pre c.checked_literals.ensures.effect

pub returns-clause-passed : goal.returns-clause-passed
returns-clause-passed c before same =
    let d = c.args.types.now in
    let a = c.args.action.now in
    let same_name = ap (λ (b : PlainSchema). b.name) c.action.view_is in
    let same_parameters = c.deref.ensures.value ∙ ap (λ (b : PlainSchema). b.parameters) c.action.view_is in
    let same_read = c.deref-2.ensures.value ∙ ap (λ (b : PlainSchema). b.parameters) c.action.view_is in
    let scope = scope_is d a c.in_ok-parameters.parameters c.new.result c.deref-2.result.now c.args.constants.now c.in_ok-parameters.ensures.declared c.new.ensures same_read c.requires.constants in
    on_ok_weaker c.checked_literals.result
    (λ passed. action_passes d before a
    (first_of d before a c.args.names.now c.action.inside.name c.deref.result.now same same_name same_parameters (c.in_ok-add_new.ensures.passed d))
    (few_of d before a c.args.names.now c.action.inside.name c.deref.result.now same same_name same_parameters c.in_ok-check_few.ensures.few)
    (typed_of d before a c.args.names.now c.action.inside.name c.deref-2.result.now same same_name same_read c.new.result c.new.ensures c.in_ok-parameters.ensures.passed)
    c.in_ok-check_few_literals.ensures.few
    (subst (λ (s : PlainScope). All (Passes d) (literals_rules s (literals_of a))) scope passed))
    c.checked_literals.ensures.passed

pub returns-clause-fault : goal.returns-clause-fault
returns-clause-fault c before same =
    let d = c.args.types.now in
    let a = c.args.action.now in
    let s : PlainScope = record { file = Domain; domain = d; parameters = c.in_ok-parameters.parameters; objects = c.args.constants.now } in
    let same_name = ap (λ (b : PlainSchema). b.name) c.action.view_is in
    let same_parameters = c.deref.ensures.value ∙ ap (λ (b : PlainSchema). b.parameters) c.action.view_is in
    let same_read = c.deref-2.ensures.value ∙ ap (λ (b : PlainSchema). b.parameters) c.action.view_is in
    let scope = scope_is d a c.in_ok-parameters.parameters c.new.result c.deref-2.result.now c.args.constants.now c.in_ok-parameters.ensures.declared c.new.ensures same_read c.requires.constants in
    IfErr-weaker c.checked_literals.result (HasFault d (literals_rules s (literals_of a))) (HasFault d (action_rules d before a))
    (λ fault has. literals_fault d before a
    (first_of d before a c.args.names.now c.action.inside.name c.deref.result.now same same_name same_parameters (c.in_ok-add_new.ensures.passed d))
    (few_of d before a c.args.names.now c.action.inside.name c.deref.result.now same same_name same_parameters c.in_ok-check_few.ensures.few)
    (typed_of d before a c.args.names.now c.action.inside.name c.deref-2.result.now same same_name same_read c.new.result c.new.ensures c.in_ok-parameters.ensures.passed)
    c.in_ok-check_few_literals.ensures.few fault
    (subst (λ (t : PlainScope). HasFault d (literals_rules t (literals_of a)) fault) scope has))
    c.checked_literals.ensures.fault
