use Rattle.std.proofs.Common.{◌≡◌, ◌∙◌, [], ◌∷◌, ◌++◌, Some, length, sym, ap, subst, arith}
use Rattle.std.specs.Prelude.{Contains}
use Rattle.std.proofs.lemmas.List.{length-map}
use Rattle.pddl_reader.specs.Forms.{Word}
use Rattle.pddl_reader.specs.Terms.{plain_term}
use Rattle.pddl_reader.specs.Values.{PlainLiteral, PlainPredicate}
use Rattle.type_check.specs.declared.faults.CheckTypeFault.TheVariants.{Typing}
use Rattle.type_check.specs.declared.faults.TypeKind.TheVariants.{UnknownPredicate, WrongCount}
use Rattle.type_check.specs.Checks.{fault_at}
use Rattle.type_check.specs.Rules.{predicate_names, find_predicate, known_predicates, equality}
use Rattle.type_check.specs.Tables.{HasFault}
use Rattle.type_check.specs.Scopes.{PlainScope, literal_in}
use Rattle.type_check.proofs.LiteralLaws.{predicate_missing, count_differs}
use Rattle.type_check.proofs.literals.Scope.predicate_of.Goals as goal

pub returns-in_default-clause-fault : goal.returns-in_default-clause-fault
unfolding literal_in
returns-in_default-clause-fault c =
    let s = c.args.self.now in
    let l = c.args.literal.now in
    let same : c.as_str.result.now ≡ l.predicate.text = c.as_str.ensures.value ∙ ap (λ (w : Word). w.text) c.name.view_is ∙ ap (λ (k : PlainLiteral). k.predicate.text) c.literal.view_is in
    let same_predicates : c.self.inside.predicates.now ≡ s.domain.predicates = c.self.invariant.0 ∙ ap (λ (t : PlainScope). t.domain.predicates) c.self.view_is in
    subst (HasFault s.domain (literal_in s l))
    (ap (λ (t : PlainScope). Typing (fault_at UnknownPredicate t.file l.predicate.at)) (sym c.self.view_is)
    ∙ ap (λ (k : PlainLiteral). Typing (fault_at UnknownPredicate c.self.inside.file k.predicate.at)) (sym c.literal.view_is) ∙ sym c.fault.ensures)
    (predicate_missing s.domain s.file s.parameters s.objects l
    (subst (λ name. Contains (predicate_names (known_predicates s.domain)) name → ⊥) same
    (subst (λ qs. Contains (predicate_names (qs ++ equality ∷ [])) c.as_str.result.now → ⊥) same_predicates c.in_default.ensures.none)))

pub returns-then-len-clause-fault : goal.returns-then-len-clause-fault
unfolding literal_in
returns-then-len-clause-fault c =
    let s = c.args.self.now in
    let l = c.args.literal.now in
    let q = c.in-Some.predicate.now in
    let same : c.as_str.result.now ≡ l.predicate.text = c.as_str.ensures.value ∙ ap (λ (w : Word). w.text) c.name.view_is ∙ ap (λ (k : PlainLiteral). k.predicate.text) c.literal.view_is in
    let same_predicates : c.self.inside.predicates.now ≡ s.domain.predicates = c.self.invariant.0 ∙ ap (λ (t : PlainScope). t.domain.predicates) c.self.view_is in
    let has = subst (Contains (predicate_names (known_predicates s.domain))) same (subst (λ qs. Contains (predicate_names (qs ++ equality ∷ [])) c.as_str.result.now) same_predicates c.in-Some.ensures.known) in
    let found = subst (λ name. find_predicate (known_predicates s.domain) name ≡ Some q) same (subst (λ qs. find_predicate (qs ++ equality ∷ []) c.as_str.result.now ≡ Some q) same_predicates c.in-Some.ensures.found) in
    subst (HasFault s.domain (literal_in s l))
    (ap (λ (t : PlainScope). Typing (fault_at WrongCount t.file l.predicate.at)) (sym c.self.view_is)
    ∙ ap (λ (k : PlainLiteral). Typing (fault_at WrongCount c.self.inside.file k.predicate.at)) (sym c.literal.view_is) ∙ sym c.fault-then-len.ensures)
    (count_differs s.domain s.file s.parameters s.objects l q has found
    (λ count. c.if-len.true
    (omega (
      arith,
      c.len.ensures,
      c.len-2.ensures,
      count,
      c.literal.inside.terms.ok.0,
      c.predicate.inside.parameters.ok.0,
      length-map c.literal.inside.terms.items plain_term,
      ap (λ (k : PlainLiteral). length k.terms) c.literal.view_is,
      ap (λ (p : PlainPredicate). length p.parameters) c.predicate.view_is,
    ))))
