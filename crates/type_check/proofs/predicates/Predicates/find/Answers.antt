use Rattle.std.proofs.Common.{◌∙◌, Some, length, codes, sym, ap}
use Rattle.std.proofs.lemmas.List.{length-map}
use Rattle.pddl_reader.specs.Values.{PlainPredicate}
use Rattle.type_check.specs.Rules.{predicate_names, equality}
use Rattle.type_check.proofs.NameLaws.{has-not, place-past, differ_from_not, same_from_not}
use Rattle.type_check.proofs.NameLists.{found_before, found_behind, known_behind, unknown_behind}
use Rattle.type_check.proofs.predicates.Predicates.find.Goals as goal

pub returns-in-Some-clause-found : goal.returns-in-Some-clause-found
returns-in-Some-clause-found c =
    found_before c.args.self.now equality c.args.name.now c.in-Some.ensures.known ∙ c.in-Some.ensures.found

pub returns-then-ne-clause-none : goal.returns-then-ne-clause-none
unfolding equality
returns-then-ne-clause-none c =
    unknown_behind c.args.self.now equality c.args.name.now c.in_default.ensures.none
    (λ same. differ_from_not c.args.name.now (codes "=") c.if-ne.ensures (sym same))

pub returns-clause-place : goal.returns-clause-place
returns-clause-place c =
    let list = c.args.self.now in
    let name = c.args.name.now in
    let past = place-past (predicate_names list) name (has-not (predicate_names list) name c.in_default.ensures.none) in
    ap length c.self.view_is ∙ sym (past ∙ length-map list (λ (q : PlainPredicate). q.name.text))

pub returns-clause-found : goal.returns-clause-found
unfolding equality
returns-clause-found c =
    let name = c.args.name.now in
    found_behind c.args.self.now equality name c.in_default.ensures.none (sym (same_from_not name (codes "=") c.if-ne.ensures))
    ∙ ap Some (sym c.self.invariant.2)

pub returns-clause-known : goal.returns-clause-known
unfolding equality
returns-clause-known c =
    let name = c.args.name.now in
    known_behind c.args.self.now equality name (sym (same_from_not name (codes "=") c.if-ne.ensures))
