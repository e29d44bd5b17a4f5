use Rattle.std.proofs.Common.{◌+◌, ◌<◌, length, get_or, ap, arith, rules}
use mathlib.Core.Path.{subst}
use Rattle.grd_base.specs.Bits.{members}
use Rattle.plain_search.specs.Walks.{visits}
use Rattle.plain_search.specs.Depths.{Deepens}
use Rattle.plain_search.specs.Moves.{unblocked_of}
use Rattle.plain_search.proofs.MoveLemmas.{next_number, first_gap, is_next, in_task, next_gap, no_next}
use Rattle.plain_search.proofs.LayerLemmas.{deepens_on, deepened}
use Rattle.plain_search.proofs.layers.expand.Goals as goal

pub loop-a-init : goal.loop-a-init
loop-a-init g c =
    let t = c.args.moves.now in
    deepens_on t c.args.limit c.args.head 0 (next_number t 0) (members c.args.from.now) c.args.deeper (visits c.args.layers.now.visited) c.args.layers.now.depths.items (first_gap t) c.requires.deepens

pub deepen-requires : goal.deepen-requires
deepen-requires g c =
    let t = c.args.moves.now in
    let i = c.loop-a.a-index in
    let within : i < length (unblocked_of t) = omega (arith, ap length c.unblocked-unblocked.ensures) in
    let deepens = subst (λ n. Deepens t c.args.limit c.args.head n (members c.args.from.now) c.args.deeper (visits c.loop-a.layers.visited) c.loop-a.layers.depths.items)
    (is_next t i (record { 0 = 0 }) within) c.loop-a.invariant in
    rw (c.task-task.ensures, c.unblocked-unblocked.ensures)
    (search rules, (search rules, (c.requires.width, (c.requires.atoms, (in_task t i (record { 0 = 0 }) within, deepens)))))

pub loop-a-preserved : goal.loop-a-preserved
loop-a-preserved g c =
    let t = c.args.moves.now in
    let i = c.loop-a.a-index in
    let within : i < length (unblocked_of t) = omega (arith, ap length c.unblocked-unblocked.ensures) in
    let a = get_or (unblocked_of t) i (record { 0 = 0 }) in
    let followed : Deepens t c.args.limit c.args.head (a.0 + 1) (members c.args.from.now) c.args.deeper (visits c.deepen.new.layers.visited) c.deepen.new.layers.depths.items =
    rw (c.task-task.ensures, c.unblocked-unblocked.ensures) at c.in_ok-deepen.ensures.followed in
    deepens_on t c.args.limit c.args.head (a.0 + 1) (next_number t (i + 1)) (members c.args.from.now) c.args.deeper (visits c.deepen.new.layers.visited) c.deepen.new.layers.depths.items
    (next_gap t i (record { 0 = 0 }) within) followed

pub returns-clause-expanded : goal.returns-clause-expanded
returns-clause-expanded g c =
    let t = c.args.moves.now in
    deepened t c.args.limit c.args.head (next_number t c.loop-a.a-index) (members c.args.from.now) c.args.deeper (visits c.loop-a.layers.visited) c.loop-a.layers.depths.items
    (omega (arith, no_next t c.loop-a.a-index (omega (arith, ap length c.unblocked-unblocked.ensures)))) c.loop-a.invariant
