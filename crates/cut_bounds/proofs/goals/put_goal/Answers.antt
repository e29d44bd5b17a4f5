use Rattle.std.proofs.Common.{length, sym, ◌∙◌, ap, arith, rules}
use Rattle.grd_base.specs.Bits.{members}
use Rattle.cut_bounds.proofs.GoalCuts.{held_at, tried_at, goal_all, goal_few, of_goal_at, below_at}
use Rattle.cut_bounds.proofs.goals.put_goal.Goals as goal
use Rattle.cut_bounds.proofs.goals.put_goal.Goals.{then-not-contains+in_ok-try_atom, else-not-contains}

pub try_atom-requires : goal.try_atom-requires
try_atom-requires g c =
    let t = c.args.task.now in
    let i = c.loop-atom.atom-index in (
      search rules,
      (
        c.requires.width,
        (
          c.requires.wide,
          (
            c.requires.adders,
            (
              below_at t c.args.level.now.goal c.known_task.ensures c.args.atoms.now c.requires.atoms i (record { 0 = 0 }) c.loop-atom-test.true,
              (
                of_goal_at t c.args.level.now.goal c.args.atoms.now c.requires.atoms i (record { 0 = 0 }) c.loop-atom-test.true,
                (sym c.contains.ensures ∙ c.if-not-contains.true, c.loop-atom.invariant.are),
              ),
            ),
          ),
        ),
      ),
    )

pub loop-atom-preserved : goal.loop-atom-preserved
loop-atom-preserved g c =
    let t = c.args.task.now in
    let f = c.args.level.now in
    let s = members c.args.s.now in
    let i = c.loop-atom.atom-index in
    elim c.if-not-contains.branch [
      | then-not-contains+in_ok-try_atom w ↦
          rw w.lists-is (tried_at t f.goal f.removed s i (record { 0 = 0 }) c.args.atoms.now c.requires.atoms c.loop-atom-test.true c.loop-atom.lists.lists.items c.loop-atom.lists.used.items c.loop-atom.invariant
          c.known_task.ensures (sym c.contains.ensures ∙ w.if-not-contains.true) _ _ w.in_ok-try_atom.field-0 w.in_ok-try_atom.ensures.lists w.in_ok-try_atom.ensures.tried)
      | else-not-contains w ↦
          rw w.lists-is (held_at t f.goal f.removed s i (record { 0 = 0 }) c.args.atoms.now c.requires.atoms c.loop-atom-test.true c.loop-atom.lists.lists.items c.loop-atom.lists.used.items c.loop-atom.invariant
          (sym c.contains.ensures ∙ w.if-not-contains.false))
    ]

pub returns-clause-covers : goal.returns-clause-covers
returns-clause-covers g c =
    let t = c.args.task.now in
    let f = c.args.level.now in
    goal_all t f.goal f.removed (members c.args.s.now) c.loop-atom.atom-index (omega (arith, c.loop-atom-test.false, ap length c.requires.atoms)) c.loop-atom.lists.lists.items c.loop-atom.lists.used.items c.loop-atom.invariant

pub returns-clause-few : goal.returns-clause-few
returns-clause-few g c = omega (arith, c.loop-atom.invariant.fewer, goal_few c.args.task.now c.args.level.now.goal c.known_task.ensures)
