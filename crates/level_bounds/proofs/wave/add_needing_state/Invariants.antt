use Rattle.grd_base.specs.Bits.{members}
use Rattle.level_bounds.proofs.FilingLemmas.{AreAdded, members_below}
use Rattle.level_bounds.proofs.wave.add_needing_state.Given as goal

abbrev pub invariant-loop-n : goal.invariant-loop-n
invariant-loop-n g l = AreAdded l.needed_by l.fn.candidates.items (members_below (members l.s) l.n) l.candidates.items
