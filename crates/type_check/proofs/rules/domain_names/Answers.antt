use Rattle.std.proofs.Common.{◌≡◌, ◌≤◌, ◌^◌, ◌∙◌, ℕ, List, [], ◌++◌, length, sym, ap, subst, arith}
use Rattle.std.specs.Prelude.{All}
use Rattle.grd_base.specs.declared.roles.FileRole.TheVariants.{Domain}
use Rattle.pddl_reader.specs.Values.{PlainTypedName, PlainDomain}
use Rattle.type_check.specs.Types.{names_of}
use Rattle.type_check.specs.Checks.{Passes}
use Rattle.type_check.specs.Typing.{IsShortDomain}
use Rattle.type_check.specs.Tables.{HasFault, HaveKnownTypes}
use Rattle.type_check.specs.Parts.{names_rules, predicates_rules, front_rules}
use Rattle.type_check.proofs.Counts.{few_constants, few_predicates}
use Rattle.type_check.proofs.FirstFaults.{fault_passes}
use Rattle.type_check.proofs.KnownTypes.{known_types}
use Rattle.type_check.proofs.DomainLaws.{types_fault, constants_fault, predicates_fault, front_passes}
use Rattle.type_check.proofs.rules.domain_names.Goals as goal

-- what holds of the constants that were read behind no names, said of the domain
constants_of : (P : PlainDomain → List (List ℕ) → List PlainTypedName → Type 0) (e d : PlainDomain) (old read : List PlainTypedName)
    → e ≡ d → old ≡ [] → read ≡ d.constants → P e (names_of old) read → P d [] d.constants
constants_of P e d old read same none same_read h =
    subst (λ f. P f [] d.constants) same (subst (λ r. P e [] r) same_read (subst (λ o. P e (names_of o) read) none h))

-- what holds of a list that was read, said of the domain
list_of : {X : Type 0} (P : PlainDomain → List X → Type 0) (e d : PlainDomain) (xs ys : List X) → e ≡ d → xs ≡ ys → P e xs → P d ys
list_of P e d xs ys same same_list h = subst (λ f. P f ys) same (subst (P e) same_list h)

-- a text of at most 2^20 bytes spells few constants and predicates
constants_few : (d : PlainDomain) → IsShortDomain d → length d.constants ≤ 2 ^ 20
constants_few d h = omega (arith, few_constants h.text d h.spells, h.short)

predicates_few : (d : PlainDomain) → IsShortDomain d → length d.predicates ≤ 2 ^ 20
predicates_few d h = omega (arith, few_predicates h.text d h.spells, h.short)

pub returns-in_err-types-clause-fault : goal.returns-in_err-types-clause-fault
returns-in_err-types-clause-fault c =
    let d = c.args.domain.now in
    let fault = c.in_err-types.field-0.0 in
    fault_passes d (front_rules d) c.from_residual.result fault c.from_residual.ensures.1 (types_fault d fault c.in_err-types.ensures.fault)

pub followed_by-requires : goal.followed_by-requires
followed_by-requires c =
    let d = c.args.domain.now in
    let read : c.deref.result.now ≡ d.constants = c.deref.ensures.value ∙ ap (λ (e : PlainDomain). e.constants) c.domain.view_is in
    let few = constants_few d c.requires in
    let none = ap length c.new.ensures in
    let many = ap length read in
    record { few = omega arith }

pub returns-in_err-constants-clause-fault : goal.returns-in_err-constants-clause-fault
returns-in_err-constants-clause-fault c =
    let e = c.in_ok-types.types in
    let d = c.args.domain.now in
    let fault = c.in_err-constants.field-0.0 in
    let read : c.deref.result.now ≡ d.constants = c.deref.ensures.value ∙ ap (λ (f : PlainDomain). f.constants) c.domain.view_is in
    fault_passes d (front_rules d) c.from_residual-in_err-constants.result fault c.from_residual-in_err-constants.ensures.1
    (constants_fault d c.in_ok-types.ensures.passed fault
    (constants_of (λ f names list. HasFault f (names_rules Domain f names list) fault) e d c.new.result c.deref.result.now c.in_ok-types.ensures.types c.new.ensures read c.in_err-constants.ensures.fault))

pub of-requires-2 : goal.of-requires-2
of-requires-2 c =
    let d = c.args.domain.now in
    let read : c.deref-2.result.now ≡ d.predicates = c.deref-2.ensures.value ∙ ap (λ (e : PlainDomain). e.predicates) c.domain.view_is in
    let few = predicates_few d c.requires in
    let many = ap length read in
    record { few = omega arith }

pub returns-in_err-predicates-clause-fault : goal.returns-in_err-predicates-clause-fault
returns-in_err-predicates-clause-fault c =
    let e = c.in_ok-types.types in
    let d = c.args.domain.now in
    let fault = c.in_err-predicates.field-0.0 in
    let same = c.in_ok-types.ensures.types in
    let read : c.deref.result.now ≡ d.constants = c.deref.ensures.value ∙ ap (λ (f : PlainDomain). f.constants) c.domain.view_is in
    let read_predicates : c.deref-2.result.now ≡ d.predicates = c.deref-2.ensures.value ∙ ap (λ (f : PlainDomain). f.predicates) c.domain.view_is in
    fault_passes d (front_rules d) c.from_residual-in_err-predicates.result fault c.from_residual-in_err-predicates.ensures.1
    (predicates_fault d c.in_ok-types.ensures.passed
    (constants_of (λ f names list. All (Passes f) (names_rules Domain f names list)) e d c.new.result c.deref.result.now same c.new.ensures read c.in_ok-constants.ensures.passed) fault
    (list_of (λ f list. HasFault f (predicates_rules f list) fault) e d c.deref-2.result.now d.predicates same read_predicates c.in_err-predicates.ensures.fault))

pub returns-clause-known : goal.returns-clause-known
returns-clause-known c =
    let e = c.in_ok-types.types in
    subst (λ d. HaveKnownTypes d c.in_ok-constants.constants) c.in_ok-types.ensures.types
    (subst (HaveKnownTypes e) (ap (λ old. old ++ c.deref.result.now) (sym c.new.ensures) ∙ sym c.in_ok-constants.ensures.declared)
    (known_types e Domain (names_of c.new.result) c.deref.result.now c.in_ok-constants.ensures.passed))

pub returns-clause-passed : goal.returns-clause-passed
returns-clause-passed c =
    let e = c.in_ok-types.types in
    let d = c.args.domain.now in
    let same = c.in_ok-types.ensures.types in
    let read : c.deref.result.now ≡ d.constants = c.deref.ensures.value ∙ ap (λ (f : PlainDomain). f.constants) c.domain.view_is in
    let read_predicates : c.deref-2.result.now ≡ d.predicates = c.deref-2.ensures.value ∙ ap (λ (f : PlainDomain). f.predicates) c.domain.view_is in
    front_passes d c.in_ok-types.ensures.passed
    (constants_of (λ f names list. All (Passes f) (names_rules Domain f names list)) e d c.new.result c.deref.result.now same c.new.ensures read c.in_ok-constants.ensures.passed)
    (list_of (λ f list. All (Passes f) (predicates_rules f list)) e d c.deref-2.result.now d.predicates same read_predicates c.in_ok-predicates.ensures.passed)
