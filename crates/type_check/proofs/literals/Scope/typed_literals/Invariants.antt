use Rattle.std.proofs.Common.{◌≡◌, map, take}
use Rattle.std.specs.Prelude.{All}
use Rattle.type_check.specs.Checks.{Passes}
use Rattle.type_check.specs.Scopes.{typed_literal_in}
use Rattle.type_check.specs.Parts.{literals_rules}
use Rattle.type_check.proofs.literals.Scope.typed_literals.Given as goal

abbrev pub invariant-loop-literal : goal.invariant-loop-literal
invariant-loop-literal l = record {
  typed : l.typed.items ≡ map (typed_literal_in l.self) (take l.literal-index l.literals);
  passed : All (Passes l.self.domain) (literals_rules l.self (take l.literal-index l.literals));
}
