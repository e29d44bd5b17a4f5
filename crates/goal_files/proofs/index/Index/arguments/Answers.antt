use Rattle.std.proofs.Common.{ℕ, ◌+◌, List, length, map, take, string_bytes, subst, sym, arith, rules}
use Rattle.std.proofs.lemmas.List.{length-map, length_push}
use Rattle.std.proofs.lemmas.Slice.Zip.{zip_turn}
use Rattle.goal_files.specs.Ground.{AreArguments}
use Rattle.goal_files.proofs.GroundLaws.{too_few, arguments_more, no_arguments}
use Rattle.goal_files.proofs.Mapped.{element_here}
use Rattle.goal_files.proofs.index.Index.arguments.Goals as goal

pub returns-then-names-places : goal.returns-then-names-places
returns-then-names-places c numbers =
    too_few c.args.self.now (map string_bytes c.args.names.now) (map (λ place. place.items) c.args.places.now) numbers
    (λ same. c.if-names-places.true (omega (arith, same, length-map c.args.names.now string_bytes, length-map c.args.places.now (λ place. place.items))))

pub loop-name-preserved : goal.loop-name-preserved
loop-name-preserved c =
    let names = map string_bytes c.args.names.now in
    let places = map (λ place. place.items) c.args.places.now in
    let at = length c.loop-name.yielded in
    let turn = zip_turn c.args.names.now c.args.places.now c.loop-name.yielded c.into_iter-name-iterator.result c.loop-name.name-iterator c.next.new.self _ (search rules) (search rules) c.loop-name.yielded_by (c.in-Some.name, c.in-Some.place) c.in-Some.is c.next.ensures.steps in
    let more = arguments_more c.args.self.now names places at c.as_str.result.now c.deref.result.now
    (element_here string_bytes c.args.names.now at c.in-Some.name.now c.as_str.result.now turn.0 (turn.2 c.in-Some.name.now) c.as_str.ensures.value)
    (element_here (λ place. place.items) c.args.places.now at c.in-Some.place.now c.deref.result.now turn.1 (turn.3 c.in-Some.place.now) c.deref.ensures.value)
    c.loop-name.numbers.items c.in-Some-argument.number c.loop-name.invariant c.in-Some-argument.ensures in
    subst (λ (n : ℕ). AreArguments c.args.self.now (take n names) (take n places) c.push.new.self.items) (sym (length_push c.loop-name.yielded (c.in-Some.name, c.in-Some.place)))
    (subst (λ (numbers : List ℕ). AreArguments c.args.self.now (take (at + 1) names) (take (at + 1) places) numbers) (sym c.in_ok-push-in-Some-argument.ensures.items) more)

pub returns-in-None-argument : goal.returns-in-None-argument
returns-in-None-argument c numbers =
    let at = length c.loop-name.yielded in
    let turn = zip_turn c.args.names.now c.args.places.now c.loop-name.yielded c.into_iter-name-iterator.result c.loop-name.name-iterator c.next.new.self _ (search rules) (search rules) c.loop-name.yielded_by (c.in-Some.name, c.in-Some.place) c.in-Some.is c.next.ensures.steps in
    no_arguments c.args.self.now (map string_bytes c.args.names.now) (map (λ place. place.items) c.args.places.now) at c.as_str.result.now c.deref.result.now
    (element_here string_bytes c.args.names.now at c.in-Some.name.now c.as_str.result.now turn.0 (turn.2 c.in-Some.name.now) c.as_str.ensures.value)
    (element_here (λ place. place.items) c.args.places.now at c.in-Some.place.now c.deref.result.now turn.1 (turn.3 c.in-Some.place.now) c.deref.ensures.value)
    numbers c.in-None-argument.ensures
