use Rattle.std.proofs.Common.{◌≡◌, take}
use Rattle.std.specs.Prelude.{filter}
use Rattle.level_bounds.specs.Waves.{is_other}
use Rattle.level_bounds.proofs.wave.others.Given as goal

abbrev pub invariant-loop-a : goal.invariant-loop-a
invariant-loop-a l = l.kept.items ≡ filter (is_other l.list) (take l.a-index l.candidates)
