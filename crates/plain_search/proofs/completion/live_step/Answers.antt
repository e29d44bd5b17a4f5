use Rattle.std.proofs.Common.{◌+◌, ◌<◌, length, get_or, sym, ◌∙◌, ap, arith, rules}
use mathlib.Core.Path.{subst}
use Rattle.std.specs.Option.{option_map}
use Rattle.grd_base.specs.Bits.{members}
use Rattle.plain_search.specs.Walks.{visits}
use Rattle.plain_search.specs.Live.{MissesBy}
use Rattle.plain_search.specs.Moves.{unblocked_of}
use Rattle.plain_search.proofs.LiveLemmas.{found_at}
use Rattle.plain_search.proofs.MoveLemmas.{next_number, first_gap, is_next, in_task, next_gap, no_next}
use Rattle.plain_search.proofs.CommonLemmas.{live_deeper, misses_more, misses_on, misses_all}
use Rattle.plain_search.proofs.completion.live_step.Goals as goal

pub live_place-requires : goal.live_place-requires
live_place-requires g c =
    let vs = visits c.args.layers.now.visited in
    let depths = c.args.layers.now.depths.items in
    let at = found_at vs depths c.args.place (members c.in_ok-from.from) c.index-depth.result.now (sym c.state.ensures ∙ ap (option_map members) c.in_ok-from.was) c.requires.deep.layered.same_length c.index-depth.ensures in
    let deeper = live_deeper c.args.moves.now vs depths c.requires.deep c.args.place (members c.in_ok-from.from) c.index-depth.result.now c.args.place c.args.live.now at (omega arith) c.requires.known in
    let within : c.loop-a.a-index < length (unblocked_of c.args.moves.now) = omega (arith, ap length c.unblocked-unblocked.ensures) in
    rw (c.task-task.ensures, c.unblocked-unblocked.ensures) (
      search rules,
      (
        search rules,
        (
          c.requires.width,
          (c.requires.atoms, (in_task c.args.moves.now c.loop-a.a-index (record { 0 = 0 }) within, (c.requires.goal, (c.requires.deep, ((c.args.place, at), deeper))))),
        ),
      ),
    )

pub returns-in-Some-clause-found : goal.returns-in-Some-clause-found
returns-in-Some-clause-found g c =
    let vs = visits c.args.layers.now.visited in
    let depths = c.args.layers.now.depths.items in
    let at = found_at vs depths c.args.place (members c.in_ok-from.from) c.index-depth.result.now (sym c.state.ensures ∙ ap (option_map members) c.in_ok-from.was) c.requires.deep.layered.same_length c.index-depth.ensures in
    let found = rw c.task-task.ensures at c.in-Some.ensures.found in
    record { state = members c.in_ok-from.from; depth = c.index-depth.result.now; here = at; to = found.0; live = found.1 }

pub loop-a-init : goal.loop-a-init
loop-a-init g c =
    let t = c.args.moves.now in
    misses_on t (visits c.args.layers.now.visited) c.args.layers.now.depths.items (members c.in_ok-from.from) c.index-depth.result.now c.args.goal 0 (next_number t 0) (first_gap t)
    (λ a place to low. absurd (omega arith))

pub loop-a-preserved : goal.loop-a-preserved
loop-a-preserved g c =
    let t = c.args.moves.now in
    let vs = visits c.args.layers.now.visited in
    let depths = c.args.layers.now.depths.items in
    let s = members c.in_ok-from.from in
    let d = c.index-depth.result.now in
    let i = c.loop-a.a-index in
    let within : i < length (unblocked_of t) = omega (arith, ap length c.unblocked-unblocked.ensures) in
    let a = get_or (unblocked_of t) i (record { 0 = 0 }) in
    let none = rw (c.task-task.ensures, c.unblocked-unblocked.ensures) at c.in_default.ensures.none in
    let misses = subst (λ n. MissesBy t vs depths s d c.args.goal n) (is_next t i (record { 0 = 0 }) within) c.loop-a.invariant in
    misses_on t vs depths s d c.args.goal (a.0 + 1) (next_number t (i + 1)) (next_gap t i (record { 0 = 0 }) within) (misses_more t vs depths s d c.args.goal a.0 misses none)

pub returns-clause-none : goal.returns-clause-none
returns-clause-none g c =
    let t = c.args.moves.now in
    let vs = visits c.args.layers.now.visited in
    let depths = c.args.layers.now.depths.items in
    let at = found_at vs depths c.args.place (members c.in_ok-from.from) c.index-depth.result.now (sym c.state.ensures ∙ ap (option_map members) c.in_ok-from.was) c.requires.deep.layered.same_length c.index-depth.ensures in
    misses_all t vs depths (members c.in_ok-from.from) c.index-depth.result.now c.requires.deep c.args.goal (next_number t c.loop-a.a-index) c.args.place at
    (omega (arith, no_next t c.loop-a.a-index (omega (arith, ap length c.unblocked-unblocked.ensures)))) c.loop-a.invariant
