use Rattle.std.proofs.Common.{sym, ◌∙◌}
use Rattle.grd_base.specs.Bits.{members}
use Rattle.strips_model.specs.Plans.{set_of}
use Rattle.level_bounds.proofs.JoinLemmas.{joined_none, joined_old, joined_new, joined_all}
use Rattle.level_bounds.proofs.wave.join_in.Goals as goal
use Rattle.level_bounds.proofs.wave.join_in.Goals.{then-not-contains+in_ok-push, else-not-contains}

pub loop-a-init : goal.loop-a-init
loop-a-init g c = joined_none (members c.args.growth.now.reached) (set_of c.args.growth.now.fresh.items)

pub loop-a-preserved : goal.loop-a-preserved
loop-a-preserved g c =
    let u = members c.loop-a.growth.reached in
    let fresh = c.loop-a.growth.fresh.items in
    elim c.if-not-contains.branch [
      | then-not-contains+in_ok-push w ↦ rw w.growth-is (joined_new _ _ c.args.atoms.now c.loop-a.a-index (record { 0 = 0 }) c.loop-a-test.true u fresh c.loop-a.invariant
          (sym c.contains.ensures ∙ w.if-not-contains.true) (members w.insert.new.self) w.push.new.self.items w.insert.ensures w.in_ok-push.ensures.items)
      | else-not-contains w ↦ rw w.growth-is (joined_old _ _ c.args.atoms.now c.loop-a.a-index (record { 0 = 0 }) c.loop-a-test.true u fresh c.loop-a.invariant
          (sym c.contains.ensures ∙ w.if-not-contains.false))
    ]

pub returns : goal.returns
returns g c =
    let all = joined_all _ _ (members c.loop-a.growth.reached) (set_of c.loop-a.growth.fresh.items) c.args.atoms.now c.loop-a.a-index c.loop-a-test.false c.loop-a.invariant in
    record { reached = all.reached; fresh = all.fresh }
