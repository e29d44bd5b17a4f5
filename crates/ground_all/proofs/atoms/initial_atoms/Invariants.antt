use Rattle.std.proofs.Common.{take, Contains}
use Rattle.std.specs.Prelude.{◌↔◌}
use Rattle.type_check.specs.Values.{PlainGroundAtom}
use Rattle.ground_all.specs.declared.atoms.StaticAtom.{StaticAtom}
use Rattle.ground_all.specs.Found.{IsKeyOf}
use Rattle.ground_all.proofs.atoms.initial_atoms.Given as goal

abbrev pub invariant-loop-atom : goal.invariant-loop-atom
invariant-loop-atom l = (key : StaticAtom) → Contains l.keys.keys key ↔ ((a : PlainGroundAtom) × Contains (take l.atom-index l.typed.init) a × IsKeyOf l.typed a key)
