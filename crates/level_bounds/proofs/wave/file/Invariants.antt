use Rattle.std.proofs.Common.{◌≡◌, length, take}
use Rattle.strips_model.specs.Plans.{set_of}
use Rattle.level_bounds.proofs.FilingLemmas.{AreListed}
use Rattle.level_bounds.proofs.wave.file.Given as goal

abbrev pub invariant-loop-p : goal.invariant-loop-p
invariant-loop-p l = record {
  count : length l.needed_by ≡ length l.fn.needed_by;
  filed : AreListed l.fn.needed_by l.a (set_of (take l.p-index l.atoms)) l.needed_by;
}
