use Rattle.std.proofs.Common.{[], ◌∷◌, ◌++◌, length, map, take, subst, arith}
use Rattle.std.specs.Prelude.{All}
use Rattle.std.proofs.lemmas.Slice.Zip.{zip_turn, zip_end}
use Rattle.std.proofs.lemmas.List.{length-map, length_push, take_all}
use Rattle.pddl_reader.specs.Terms.{plain_term}
use Rattle.type_check.specs.Checks.{Passes}
use Rattle.type_check.specs.Scopes.{object_in, terms_in, term_in}
use Rattle.type_check.proofs.FirstFaults.{fault_passes}
use Rattle.type_check.proofs.TermLaws.{next_passed, next_fault, next_typed}
use Rattle.type_check.proofs.literals.Scope.objects_of.Goals as goal

pub returns-in_err-object_of-clause-fault : goal.returns-in_err-object_of-clause-fault
unfolding terms_in term_in
returns-in_err-object_of-clause-fault c =
    let s = c.args.self.now in
    let terms = c.args.terms.now in
    let places = c.args.places.now in
    let term = c.in-Some.term.now in
    let place = c.in-Some.place.now in
    let fault = c.in_err-object_of.field-0.0 in
    let turn = zip_turn terms places c.loop-term.yielded c.into_iter-term-iterator.result c.loop-term.term-iterator c.next.new.self c.next.result (cc) (cc) c.loop-term.yielded_by (c.in-Some.term, c.in-Some.place) c.in-Some.is c.next.ensures.steps in
    fault_passes s.domain (terms_in s (map plain_term terms) places) c.from_residual-in_err-object_of.result fault c.from_residual-in_err-object_of.ensures.1
    (next_fault terms places (length c.loop-term.yielded) term place turn.0 turn.1 (turn.2 term) (turn.3 place) s.file s.parameters s.objects s.domain fault
    c.loop-term.invariant.passed c.in_err-object_of.ensures.fault)

pub loop-term-preserved : goal.loop-term-preserved
unfolding terms_in term_in
loop-term-preserved c =
    let s = c.args.self.now in
    let terms = c.args.terms.now in
    let places = c.args.places.now in
    let term = c.in-Some.term.now in
    let place = c.in-Some.place.now in
    let n = length c.loop-term.yielded in
    let turn = zip_turn terms places c.loop-term.yielded c.into_iter-term-iterator.result c.loop-term.term-iterator c.next.new.self c.next.result (cc) (cc) c.loop-term.yielded_by (c.in-Some.term, c.in-Some.place) c.in-Some.is c.next.ensures.steps in
    let more = length_push c.loop-term.yielded (c.in-Some.term, c.in-Some.place) in
    record {
      objects = next_typed terms places n term place turn.0 turn.1 (turn.2 term) (turn.3 place) (object_in s) c.in_ok-object_of.field-0 (length (c.loop-term.yielded ++ (c.in-Some.term, c.in-Some.place) ∷ [])) c.loop-term.objects.items c.push.new.self.items more
          c.loop-term.invariant.objects c.in_ok-object_of.ensures.object c.in_ok-push.ensures.items;
      passed = next_passed terms places n term place turn.0 turn.1 (turn.2 term) (turn.3 place) s.file s.parameters s.objects s.domain (length (c.loop-term.yielded ++ (c.in-Some.term, c.in-Some.place) ∷ [])) more
          c.loop-term.invariant.passed c.in_ok-object_of.ensures.passed;
    }

pub returns-clause-passed : goal.returns-clause-passed
unfolding terms_in term_in
returns-clause-passed c =
    let s = c.args.self.now in
    let terms = c.args.terms.now in
    let places = c.args.places.now in
    let n = length c.loop-term.yielded in
    let end = zip_end terms places c.loop-term.yielded c.into_iter-term-iterator.result c.loop-term.term-iterator c.next.new.self c.next.result (cc) (cc) c.loop-term.yielded_by c.in-None.is c.next.ensures.steps in
    let many = length-map terms plain_term in
    subst (λ ts. All (Passes s.domain) (terms_in s ts places)) (take_all n (map plain_term terms) (omega arith))
    (subst (λ ps. All (Passes s.domain) (terms_in s (take n (map plain_term terms)) ps)) (take_all n places (omega arith)) c.loop-term.invariant.passed)
