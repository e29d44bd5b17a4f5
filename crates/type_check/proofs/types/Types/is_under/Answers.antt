use Rattle.std.proofs.Common.{◌∙◌, ap, sym}
use Rattle.type_check.specs.Types.{object_type}
use Rattle.type_check.specs.Chains.{type_parents}
use Rattle.type_check.proofs.TypeLaws.{under_unknown, known_within, all_within, under_by_numbers}
use Rattle.type_check.proofs.types.Types.is_under.Goals as goal

pub leads_to-requires-clause-known : goal.leads_to-requires-clause-known
leads_to-requires-clause-known c =
    known_within c.args.self.now c.as_slice.result.now (c.as_slice.ensures.value ∙ c.self.invariant.are_parents ∙ ap type_parents c.self.view_is)
    c.in-Some-Some.from c.args.name.now c.in-Some-Some.ensures.number c.requires.known

pub leads_to-requires-clause-within : goal.leads_to-requires-clause-within
leads_to-requires-clause-within c =
    all_within c.args.self.now c.as_slice.result.now (c.as_slice.ensures.value ∙ c.self.invariant.are_parents ∙ ap type_parents c.self.view_is)

pub returns-in-Some-Some : goal.returns-in-Some-Some
unfolding object_type
returns-in-Some-Some c =
    under_by_numbers c.args.self.now c.as_slice.result.now (c.as_slice.ensures.value ∙ c.self.invariant.are_parents ∙ ap type_parents c.self.view_is)
    c.args.name.now c.args.other.now c.in-Some-Some.from c.in-Some-Some.to c.leads_to.result c.in-Some-Some.ensures.number c.in-Some-Some.ensures'.number
    c.requires.known c.in-Some-Some.ensures'.found (sym c.if-eq.ensures) c.leads_to.ensures

pub returns-in_default : goal.returns-in_default
unfolding object_type
returns-in_default c = (λ e. cc, λ under. absurd (under_unknown c.args.self.now c.args.name.now c.args.other.now c.requires.known c.in_default.ensures'.none (sym c.if-eq.ensures) under))
