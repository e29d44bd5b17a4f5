use Rattle.std.proofs.Common.{◌≡◌, ◌≤◌, length, sym, ◌∙◌, ap, arith, rules}
use Rattle.std.specs.Option.{option_map}
use Rattle.std.proofs.lemmas.Option.{IfSome_then}
use Rattle.grd_base.specs.Bits.{members}
use Rattle.strips_model.specs.Values.{PlainTask}
use Rattle.plain_search.specs.Walks.{visits}
use Rattle.plain_search.specs.Live.{AreFewFrom}
use Rattle.plain_search.proofs.LiveLemmas.{found_at}
use Rattle.plain_search.proofs.CommonLemmas.{live_deeper, settled, shared_at, few_settled, if_none}
use Rattle.plain_search.proofs.live.settle.Goals as goal

pub live_in-here-requires : goal.live_in-here-requires
live_in-here-requires g c =
    let vs = visits c.args.layers.now.visited in
    let depths = c.args.layers.now.depths.items in
    let at = found_at vs depths c.args.place (members c.in_ok-from.from) c.index.result.now (sym c.state.ensures ∙ ap (option_map members) c.in_ok-from.was) c.requires.deep.layered.same_length c.index.ensures in
    let deeper = live_deeper c.args.moves.now vs depths c.requires.deep c.args.place (members c.in_ok-from.from) c.index.result.now _ c.args.live.now at (omega arith) c.requires.known in
    (search rules, (search rules, (c.requires.width, (c.requires.atoms, (c.requires.costs, (c.requires.deep, ((c.args.place, at), deeper)))))))

pub returns-clause-known : goal.returns-clause-known
returns-clause-known g c =
    let vs = visits c.args.layers.now.visited in
    let depths = c.args.layers.now.depths.items in
    let at = found_at vs depths c.args.place (members c.in_ok-from.from) c.index.result.now (sym c.state.ensures ∙ ap (option_map members) c.in_ok-from.was) c.requires.deep.layered.same_length c.index.ensures in
    settled c.args.moves.now vs depths c.args.place (members c.in_ok-from.from) c.index.result.now at c.live_in-here.result c.live_in-here.ensures c.args.live.now c.requires.place c.requires.known

pub returns-clause-two : goal.returns-clause-two
returns-clause-two g c =
    let vs = visits c.args.layers.now.visited in
    let depths = c.args.layers.now.depths.items in
    let at = found_at vs depths c.args.place (members c.in_ok-from.from) c.index.result.now (sym c.state.ensures ∙ ap (option_map members) c.in_ok-from.was) c.requires.deep.layered.same_length c.index.ensures in
    let few : c.len.result ≤ 64 = omega (arith, c.task.invariant.few_goals, c.task.inside.goals.ok.0) in
    IfSome_then c.two_goals.result c.two_goals.ensures.two (λ pair two.
    shared_at c.args.moves.now vs depths c.args.place (members c.in_ok-from.from) c.index.result.now at c.live_in-here.result c.live_in-here.ensures c.len.result few pair.0 pair.1 two)

pub returns-clause-few : goal.returns-clause-few
returns-clause-few g c =
    let vs = visits c.args.layers.now.visited in
    let depths = c.args.layers.now.depths.items in
    let at = found_at vs depths c.args.place (members c.in_ok-from.from) c.index.result.now (sym c.state.ensures ∙ ap (option_map members) c.in_ok-from.was) c.requires.deep.layered.same_length c.index.ensures in
    let goals : length c.task.inside.goals.items ≡ length c.args.moves.now.goals = ap (λ (t : PlainTask). length t.goals) (c.task.view_is ∙ c.task-task.ensures) in
    if_none c.two_goals.result _ (AreFewFrom c.args.moves.now vs depths c.args.place) c.two_goals.ensures.few (λ none.
    few_settled c.args.moves.now vs depths c.args.place (members c.in_ok-from.from) c.index.result.now at c.live_in-here.result c.live_in-here.ensures
    (λ m n rise low. none m n rise (omega (arith, c.task.inside.goals.ok.0))) c.requires.few)
