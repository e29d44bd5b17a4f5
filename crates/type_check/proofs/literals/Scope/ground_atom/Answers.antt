use Rattle.std.proofs.Common.{◌≡◌, ◌∙◌, map, ap, subst}
use Rattle.std.specs.Prelude.{All}
use Rattle.pddl_reader.specs.Terms.{plain_term}
use Rattle.pddl_reader.specs.Values.{PlainLiteral, PlainPredicate}
use Rattle.type_check.specs.Checks.{Passes}
use Rattle.type_check.specs.Tables.{HasFault}
use Rattle.type_check.specs.Scopes.{terms_in, literal_in}
use Rattle.type_check.proofs.FirstFaults.{fault_passes}
use Rattle.type_check.proofs.LiteralLaws.{literal_fault, literal_passes}
use Rattle.type_check.proofs.literals.Scope.ground_atom.Goals as goal

pub returns-in_err-objects_of-clause-fault : goal.returns-in_err-objects_of-clause-fault
unfolding literal_in terms_in
returns-in_err-objects_of-clause-fault c =
    let s = c.args.self.now in
    let l = c.args.atom.now in
    let q = c.in_ok-place.predicate.now in
    let fault = c.in_err-objects_of.field-0.0 in
    let same_terms : map plain_term c.deref.result.now ≡ l.terms = ap (map plain_term) c.deref.ensures.value ∙ ap (λ (k : PlainLiteral). k.terms) c.atom.view_is in
    let same_places : c.deref-2.result.now ≡ q.parameters = c.deref-2.ensures.value ∙ ap (λ (p : PlainPredicate). p.parameters) c.predicate.view_is in
    fault_passes s.domain (literal_in s l) c.from_residual-in_err-objects_of.result fault c.from_residual-in_err-objects_of.ensures.1
    (literal_fault s.domain s.file s.parameters s.objects l q c.in_ok-place.ensures.known c.in_ok-place.ensures.found fault c.in_ok-place.ensures.count
    (subst (λ terms. HasFault s.domain (terms_in s terms q.parameters) fault) same_terms
    (subst (λ places. HasFault s.domain (terms_in s (map plain_term c.deref.result.now) places) fault) same_places c.in_err-objects_of.ensures.fault)))

pub returns-clause-passed : goal.returns-clause-passed
unfolding literal_in terms_in
returns-clause-passed c =
    let s = c.args.self.now in
    let l = c.args.atom.now in
    let q = c.in_ok-place.predicate.now in
    let same_terms : map plain_term c.deref.result.now ≡ l.terms = ap (map plain_term) c.deref.ensures.value ∙ ap (λ (k : PlainLiteral). k.terms) c.atom.view_is in
    let same_places : c.deref-2.result.now ≡ q.parameters = c.deref-2.ensures.value ∙ ap (λ (p : PlainPredicate). p.parameters) c.predicate.view_is in
    literal_passes s.domain s.file s.parameters s.objects l q c.in_ok-place.ensures.known c.in_ok-place.ensures.found c.in_ok-place.ensures.count
    (subst (λ terms. All (Passes s.domain) (terms_in s terms q.parameters)) same_terms
    (subst (λ places. All (Passes s.domain) (terms_in s (map plain_term c.deref.result.now) places)) same_places c.in_ok-objects_of.ensures.passed))
