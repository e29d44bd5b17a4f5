use Rattle.std.proofs.Common.{◌≤◌, ◌^◌, length, arith}
use Rattle.pddl_reader.specs.Values.{PlainDomain, PlainProblem}
use Rattle.type_check.specs.Rules.{checks_of}
use Rattle.type_check.specs.Typing.{IsShortDomain, IsShortProblem}
use Rattle.type_check.proofs.Counts.{few_constants, few_objects}
use Rattle.type_check.proofs.FirstFaults.{fault_passes}
use Rattle.type_check.proofs.DomainLaws.{domain_fault, problem_fault, files_pass}
use Rattle.type_check.proofs.rules.check_rules.Goals as goal

-- a text of at most 2^20 bytes spells few constants and objects
constants_few : (d : PlainDomain) → IsShortDomain d → length d.constants ≤ 2 ^ 20
constants_few d h = omega (arith, few_constants h.text d h.spells, h.short)

objects_few : (p : PlainProblem) → IsShortProblem p → length p.objects ≤ 2 ^ 20
objects_few p h = omega (arith, few_objects h.text p h.spells, h.short)

pub returns-in_err-checked-clause-fault : goal.returns-in_err-checked-clause-fault
returns-in_err-checked-clause-fault c =
    let d = c.args.domain.now in
    let p = c.args.problem.now in
    let fault = c.in_err-checked.field-0.0 in
    fault_passes d (checks_of d p) c.from_residual.result fault c.from_residual.ensures.1 (domain_fault d p fault c.in_err-checked.ensures.fault)

pub checked_problem-requires-clause-few : goal.checked_problem-requires-clause-few
checked_problem-requires-clause-few c =
    let few = constants_few c.args.domain.now c.requires.short_domain in
    let few_of_problem = objects_few c.args.problem.now c.requires.short_problem in
    omega arith

pub returns-in_err-init-clause-fault : goal.returns-in_err-init-clause-fault
returns-in_err-init-clause-fault c =
    let d = c.args.domain.now in
    let p = c.args.problem.now in
    let fault = c.in_err-init.field-0.0 in
    fault_passes d (checks_of d p) c.from_residual-in_err-init.result fault c.from_residual-in_err-init.ensures.1
    (problem_fault d p c.in_ok-checked.ensures.passed fault c.in_err-init.ensures.fault)

pub returns-clause-passed : goal.returns-clause-passed
returns-clause-passed c = files_pass c.args.domain.now c.args.problem.now c.in_ok-checked.ensures.passed c.in_ok-init.ensures.passed
