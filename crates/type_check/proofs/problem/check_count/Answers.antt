use Rattle.std.proofs.Common.{◌≡◌, ◌∙◌, ◌-◌, ◌<◌, ◌≤◌, List, ◌++◌, length, get_or, sym, ap, subst, arith, length-append}
use Rattle.grd_base.specs.declared.roles.FileRole.TheVariants.{Domain, Problem}
use Rattle.pddl_reader.specs.Values.{PlainTypedName, PlainDomain, PlainProblem}
use Rattle.type_check.specs.declared.faults.CheckTypeFault.TheVariants.{Typing}
use Rattle.type_check.specs.declared.faults.TypeKind.TheVariants.{TooManyObjects}
use Rattle.type_check.specs.Checks.{fault_at}
use Rattle.type_check.specs.Rules.{all_objects, count_checks}
use Rattle.type_check.specs.Tables.{HasFault}
use Rattle.type_check.proofs.CountLaws.{too_many, not_too_many, with_files, length-with_files, constant_at, object_at}
use Rattle.type_check.proofs.problem.check_count.Goals as goal

-- as many constants and objects as there are with their files
all_many : (constants objects : List PlainTypedName) → length (constants ++ objects) ≡ length (with_files constants objects)
all_many constants objects = length-append constants objects ∙ sym (length-with_files constants objects)

pub returns-in-Some-clause-fault : goal.returns-in-Some-clause-fault
returns-in-Some-clause-fault c =
    let d = c.args.domain.now in
    let p = c.args.problem.now in
    let n = c.in-Some.constant.now in
    let same : c.deref.result.now ≡ d.constants = c.deref.ensures.value ∙ ap (λ (e : PlainDomain). e.constants) c.domain.view_is in
    let found = c.in-Some.ensures.lookup.3 in
    let within : 1024 < length d.constants = subst (λ list. 1024 < length list) same found.0 in
    let is : n ≡ get_or d.constants 1024 n = subst (λ list. n ≡ get_or list 1024 n) same (found.1 n) in
    let many = length-with_files d.constants p.objects in
    subst (HasFault d (count_checks d p))
    (ap (λ (m : PlainTypedName). Typing (fault_at TooManyObjects Domain m.name.at)) (sym c.constant.view_is) ∙ sym c.fault.ensures)
    (too_many d (length (all_objects d p)) 1024 (with_files d.constants p.objects) (all_many d.constants p.objects) (Domain, n) (omega arith)
    (constant_at d.constants p.objects 1024 n within is))

pub returns-in-Some-get-clause-fault : goal.returns-in-Some-get-clause-fault
returns-in-Some-get-clause-fault c =
    let d = c.args.domain.now in
    let p = c.args.problem.now in
    let n = c.in-Some-get.object.now in
    let same_constants : c.deref.result.now ≡ d.constants = c.deref.ensures.value ∙ ap (λ (e : PlainDomain). e.constants) c.domain.view_is in
    let same : c.deref-2.result.now ≡ p.objects = c.deref-2.ensures.value ∙ ap (λ (q : PlainProblem). q.objects) c.problem.view_is in
    let behind : length d.constants ≤ 1024 = subst (λ list. length list ≤ 1024) same_constants c.in_default.ensures.lookup.3 in
    let count : c.len.result ≡ length d.constants = c.len.ensures ∙ c.domain.inside.constants.ok.0 ∙ ap (λ (e : PlainDomain). length e.constants) c.domain.view_is in
    let found = c.in-Some-get.ensures.lookup.3 in
    let within : 1024 - length d.constants < length p.objects = subst (λ k. 1024 - k < length p.objects) count (subst (λ list. 1024 - c.len.result < length list) same found.0) in
    let is : n ≡ get_or p.objects (1024 - length d.constants) n = subst (λ k. n ≡ get_or p.objects (1024 - k) n) count (subst (λ list. n ≡ get_or list (1024 - c.len.result) n) same (found.1 n)) in
    let many = length-with_files d.constants p.objects in
    subst (HasFault d (count_checks d p))
    (ap (λ (m : PlainTypedName). Typing (fault_at TooManyObjects Problem m.name.at)) (sym c.object.view_is) ∙ sym c.fault-in-Some-get.ensures)
    (too_many d (length (all_objects d p)) 1024 (with_files d.constants p.objects) (all_many d.constants p.objects) (Problem, n) (omega arith)
    (object_at d.constants p.objects 1024 n behind within is))

pub returns-in-None-clause-passed : goal.returns-in-None-clause-passed
returns-in-None-clause-passed c =
    let d = c.args.domain.now in
    let p = c.args.problem.now in
    let same_constants : c.deref.result.now ≡ d.constants = c.deref.ensures.value ∙ ap (λ (e : PlainDomain). e.constants) c.domain.view_is in
    let same : c.deref-2.result.now ≡ p.objects = c.deref-2.ensures.value ∙ ap (λ (q : PlainProblem). q.objects) c.problem.view_is in
    let behind : length d.constants ≤ 1024 = subst (λ list. length list ≤ 1024) same_constants c.in_default.ensures.lookup.3 in
    let count : c.len.result ≡ length d.constants = c.len.ensures ∙ c.domain.inside.constants.ok.0 ∙ ap (λ (e : PlainDomain). length e.constants) c.domain.view_is in
    let few : length p.objects ≤ 1024 - length d.constants = subst (λ k. length p.objects ≤ 1024 - k) count (subst (λ list. length list ≤ 1024 - c.len.result) same c.in-None.ensures.lookup.3) in
    let many = length-with_files d.constants p.objects in
    not_too_many d (length (all_objects d p)) 1024 (with_files d.constants p.objects) (all_many d.constants p.objects) (omega arith)
