use Rattle.std.proofs.Common.{sym, ◌∙◌, arith}
use Rattle.grd_base.specs.Bits.{members}
use Rattle.level_bounds.proofs.FilingLemmas.{added_in, added_out, added_all}
use Rattle.level_bounds.proofs.wave.add_needing_state.Goals as goal
use Rattle.level_bounds.proofs.wave.add_needing_state.Goals.{then-contains+in_ok-extend_from_slice, else-contains}

pub loop-n-preserved : goal.loop-n-preserved
loop-n-preserved g c =
    let lists = c.args.needed_by.now in
    let start = c.args.candidates.now.items in
    let old = c.loop-n.candidates.items in
    elim c.if-contains.branch [
      | then-contains+in_ok-extend_from_slice w ↦ rw w.candidates-is (added_in lists start old w.at.result.now w.extend_from_slice.new.self.items (members c.args.s.now) c.loop-n.n
          (sym c.contains.ensures ∙ w.if-contains.true) w.at.ensures w.in_ok-extend_from_slice.ensures.items c.loop-n.invariant)
      | else-contains w ↦ rw w.candidates-is (added_out lists start old (members c.args.s.now) c.loop-n.n (sym c.contains.ensures ∙ w.if-contains.false) c.loop-n.invariant)
    ]

pub returns : goal.returns
returns g c = added_all c.args.needed_by.now c.args.candidates.now.items c.loop-n.candidates.items (members c.args.s.now) c.loop-n.n (omega arith) c.loop-n.invariant
