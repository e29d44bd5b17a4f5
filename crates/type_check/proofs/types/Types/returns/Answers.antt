use Rattle.std.proofs.Common.{arith}
use Rattle.type_check.proofs.TypeLaws.{number_within, returns_as_marked, unknown_stays}
use Rattle.type_check.proofs.types.Types.returns.Goals as goal

pub bounds-returning-number : goal.bounds-returning-number
bounds-returning-number c = omega (arith, c.requires.each, c.in-Some.ensures.number, number_within c.args.self.now c.args.name.now c.in-Some.ensures.found)

pub returns-in-Some : goal.returns-in-Some
returns-in-Some c =
    returns_as_marked c.args.self.now c.args.returning.now c.args.name.now c.in-Some.number c.requires c.in-Some.ensures.number c.in-Some.ensures.found

pub returns-in-None : goal.returns-in-None
returns-in-None c = (λ e. cc, λ h. absurd (unknown_stays c.args.self.now c.args.name.now c.in-None.ensures.none h))
