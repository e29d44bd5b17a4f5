use Rattle.std.proofs.Common.{subst}
use Rattle.type_check.specs.Tables.{HaveKnownTypes}
use Rattle.type_check.specs.Scopes.{PlainScope}
use Rattle.type_check.proofs.literals.Scope.typed_term.Goals as goal

pub number_of-requires : goal.number_of-requires
number_of-requires c = subst (λ (s : PlainScope). HaveKnownTypes s.domain c.self.inside.parameters.now) c.self.view_is c.self.invariant.1

pub number_of-requires-in-Constant : goal.number_of-requires-in-Constant
number_of-requires-in-Constant c = subst (λ (s : PlainScope). HaveKnownTypes s.domain c.self.inside.objects.now) c.self.view_is c.self.invariant.2
