use Rattle.std.proofs.Common.{◌≡◌, ◌∙◌, List, Some, sym, ap, subst}
use Rattle.std.specs.Prelude.{All, Contains, ◌↔◌}
use Rattle.std.proofs.lemmas.Bool.{true≢false}
use Rattle.pddl_reader.specs.Forms.{Word}
use Rattle.pddl_reader.specs.Values.{PlainTypedName, PlainDomain}
use Rattle.type_check.specs.declared.faults.CheckTypeFault.TheVariants.{Typing}
use Rattle.type_check.specs.declared.faults.TypeKind.TheVariants.{WrongType}
use Rattle.type_check.specs.Types.{texts, names_of, type_names, FitsTypes}
use Rattle.type_check.specs.Checks.{fault_at}
use Rattle.type_check.specs.Rules.{find_name}
use Rattle.type_check.specs.Tables.{HasFault, HaveKnownTypes}
use Rattle.type_check.specs.Scopes.{PlainScope, named_checks}
use Rattle.type_check.proofs.TermLaws.{name_missing, name_misfits, name_fits, find_holds}
use Rattle.type_check.proofs.literals.Scope.number_of.Goals as goal

pub returns-in_default-clause-fault : goal.returns-in_default-clause-fault
unfolding named_checks
returns-in_default-clause-fault c =
    let s = c.args.self.now in
    let w = c.args.name.now in
    let declared = c.args.declared.now in
    let same : c.as_str.result.now ≡ w.text = c.as_str.ensures.value ∙ ap (λ (n : Word). n.text) c.name.view_is in
    let none = subst (λ name. Contains (names_of declared) name → ⊥) same c.in_default.ensures.none in
    subst (HasFault s.domain (named_checks c.args.missing s.file declared w c.args.place.now))
    (ap (λ (t : PlainScope). Typing (fault_at c.args.missing t.file w.at)) (sym c.self.view_is) ∙ sym c.fault.ensures)
    (name_missing s.domain c.args.missing s.file declared w c.args.place.now none)

pub fit-requires : goal.fit-requires
unfolding named_checks
fit-requires c =
    let d = c.self.inside.types.now in
    let declared = c.args.declared.now in
    let known = subst (λ (s : PlainScope). HaveKnownTypes s.domain declared) (sym c.self.view_is) c.requires in
    let n = c.in-Some.found.now in
    record {
      known = subst (λ types. All (Contains (type_names d)) (texts types)) (ap (λ (m : PlainTypedName). m.types) (sym c.found.view_is) ∙ sym c.as_slice.ensures)
          (find_holds (λ m. All (Contains (type_names d)) (texts m.types)) declared c.as_str.result.now n c.in-Some.ensures.found known.known);
    }

-- whether the types fit, by the domain, the name and its place
fits : {d d' : PlainDomain} {types types' others others' : List Word} {T : Type 0} → d ≡ d' → types ≡ types' → others ≡ others'
    → (T ↔ FitsTypes d (texts types) (texts others)) → (T ↔ FitsTypes d' (texts types') (texts others'))
fits {d} {d'} {types} {types'} {others} {others'} {T} same_domain same_types same_others h =
    subst (λ e. T ↔ FitsTypes e (texts types') (texts others')) same_domain
    (subst (λ ts. T ↔ FitsTypes d (texts ts) (texts others')) same_types
    (subst (λ os. T ↔ FitsTypes d (texts types) (texts os)) same_others h))

pub returns-then-not-branch-clause-fault : goal.returns-then-not-branch-clause-fault
unfolding named_checks
returns-then-not-branch-clause-fault c =
    let s = c.args.self.now in
    let w = c.args.name.now in
    let declared = c.args.declared.now in
    let place = c.args.place.now in
    let n = c.in-Some.found.now in
    let same : c.as_str.result.now ≡ w.text = c.as_str.ensures.value ∙ ap (λ (x : Word). x.text) c.name.view_is in
    let fit = fits (ap (λ (t : PlainScope). t.domain) c.self.view_is) (c.as_slice.ensures ∙ ap (λ (m : PlainTypedName). m.types) c.found.view_is)
    (c.as_slice-2.ensures ∙ ap (λ (m : PlainTypedName). m.types) c.place.view_is) c.in_ok-fit.ensures in
    subst (HasFault s.domain (named_checks c.args.missing s.file declared w place))
    (ap (λ (t : PlainScope). Typing (fault_at WrongType t.file w.at)) (sym c.self.view_is) ∙ sym c.fault-then-not-branch.ensures)
    (name_misfits s.domain c.args.missing s.file declared w place n
    (subst (Contains (names_of declared)) same c.in-Some.ensures.known) (subst (λ name. find_name declared name ≡ Some n) same c.in-Some.ensures.found)
    (λ yes_fits. true≢false (sym (fit.1 yes_fits) ∙ c.if-not-branch.true)))

pub returns-clause-passed : goal.returns-clause-passed
unfolding named_checks
returns-clause-passed c =
    let s = c.args.self.now in
    let w = c.args.name.now in
    let declared = c.args.declared.now in
    let place = c.args.place.now in
    let n = c.in-Some.found.now in
    let same : c.as_str.result.now ≡ w.text = c.as_str.ensures.value ∙ ap (λ (x : Word). x.text) c.name.view_is in
    let fit = fits (ap (λ (t : PlainScope). t.domain) c.self.view_is) (c.as_slice.ensures ∙ ap (λ (m : PlainTypedName). m.types) c.found.view_is)
    (c.as_slice-2.ensures ∙ ap (λ (m : PlainTypedName). m.types) c.place.view_is) c.in_ok-fit.ensures in
    name_fits s.domain c.args.missing s.file declared w place n
    (subst (Contains (names_of declared)) same c.in-Some.ensures.known) (subst (λ name. find_name declared name ≡ Some n) same c.in-Some.ensures.found)
    (fit.0 c.if-not-branch.false)
