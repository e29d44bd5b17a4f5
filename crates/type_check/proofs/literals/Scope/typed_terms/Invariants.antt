use Rattle.std.proofs.Common.{◌≡◌, length, map, take}
use Rattle.std.specs.Prelude.{All}
use Rattle.pddl_reader.specs.Terms.{plain_term}
use Rattle.type_check.specs.Checks.{Passes}
use Rattle.type_check.specs.Scopes.{terms_in, typed_in}
use Rattle.type_check.proofs.literals.Scope.typed_terms.Given as goal

abbrev pub invariant-loop-term : goal.invariant-loop-term
invariant-loop-term l = record {
  typed : l.typed.items ≡ map (typed_in l.self) (map plain_term (take (length l.yielded) l.terms));
  passed : All (Passes l.self.domain) (terms_in l.self (take (length l.yielded) (map plain_term l.terms)) (take (length l.yielded) l.places));
}
