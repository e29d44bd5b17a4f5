use Rattle.std.proofs.Common.{◌+◌, ◌<◌, length, get_or, ap, arith, rules}
use mathlib.Core.Path.{subst}
use Rattle.grd_base.specs.Bits.{members}
use Rattle.plain_search.specs.Walks.{visits}
use Rattle.plain_search.specs.Live.{Gathers}
use Rattle.plain_search.specs.Moves.{unblocked_of}
use Rattle.plain_search.proofs.MoveLemmas.{next_number, first_gap, is_next, in_task, next_gap, no_next}
use Rattle.plain_search.proofs.CommonLemmas.{gathers_none, gathers_on, gathers_all}
use Rattle.plain_search.proofs.live.live_in.Goals as goal

pub loop-a-init : goal.loop-a-init
loop-a-init g c =
    let t = c.args.moves.now in
    let vs = visits c.args.layers.now.visited in
    let depths = c.args.layers.now.depths.items in
    let s = members c.args.from.now in
    let here = members c.ending-here.result in
    gathers_on t vs depths s c.args.depth 0 (next_number t 0) here (first_gap t) (gathers_none t vs depths s c.args.depth here (rw c.task-task.ensures at c.ending-here.ensures) c.requires.deep)

pub add_live-requires : goal.add_live-requires
add_live-requires g c =
    let t = c.args.moves.now in
    let vs = visits c.args.layers.now.visited in
    let depths = c.args.layers.now.depths.items in
    let i = c.loop-a.a-index in
    let within : i < length (unblocked_of t) = omega (arith, ap length c.unblocked-unblocked.ensures) in
    let gathers = subst (λ n. Gathers t vs depths (members c.args.from.now) c.args.depth n (members c.loop-a.here)) (is_next t i (record { 0 = 0 }) within) c.loop-a.invariant in
    rw (c.task-task.ensures, c.unblocked-unblocked.ensures)
    (search rules, (search rules, (c.requires.width, (c.requires.atoms, (in_task t i (record { 0 = 0 }) within, (c.requires.deep, (c.requires.from, (c.requires.known, gathers))))))))

pub loop-a-preserved : goal.loop-a-preserved
loop-a-preserved g c =
    let t = c.args.moves.now in
    let vs = visits c.args.layers.now.visited in
    let depths = c.args.layers.now.depths.items in
    let s = members c.args.from.now in
    let i = c.loop-a.a-index in
    let within : i < length (unblocked_of t) = omega (arith, ap length c.unblocked-unblocked.ensures) in
    let a = get_or (unblocked_of t) i (record { 0 = 0 }) in
    let gathers : Gathers t vs depths s c.args.depth (a.0 + 1) (members c.add_live.new.here) = rw (c.task-task.ensures, c.unblocked-unblocked.ensures) at c.add_live.ensures in
    gathers_on t vs depths s c.args.depth (a.0 + 1) (next_number t (i + 1)) (members c.add_live.new.here) (next_gap t i (record { 0 = 0 }) within) gathers

pub returns : goal.returns
returns g c =
    let t = c.args.moves.now in
    gathers_all t (visits c.args.layers.now.visited) c.args.layers.now.depths.items (members c.args.from.now) c.args.depth c.requires.deep (next_number t c.loop-a.a-index) (members c.loop-a.here) c.requires.from
    (omega (arith, no_next t c.loop-a.a-index (omega (arith, ap length c.unblocked-unblocked.ensures)))) c.loop-a.invariant
