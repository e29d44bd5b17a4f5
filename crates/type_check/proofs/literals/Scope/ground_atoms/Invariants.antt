use Rattle.std.proofs.Common.{◌≡◌, map, take}
use Rattle.std.specs.Prelude.{All}
use Rattle.type_check.specs.Checks.{Passes}
use Rattle.type_check.specs.Scopes.{atom_in}
use Rattle.type_check.specs.Parts.{literals_rules}
use Rattle.type_check.proofs.literals.Scope.ground_atoms.Given as goal

abbrev pub invariant-loop-atom : goal.invariant-loop-atom
invariant-loop-atom l = record {
  ground : l.ground.items ≡ map (atom_in l.self) (take l.atom-index l.atoms);
  passed : All (Passes l.self.domain) (literals_rules l.self (take l.atom-index l.atoms));
}
