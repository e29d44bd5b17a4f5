use Rattle.std.proofs.Common.{◌∙◌, ap, subst}
use Rattle.std.specs.Prelude.{◌↔◌}
use Rattle.type_check.specs.Chains.{MeetsMark, type_parents}
use Rattle.type_check.proofs.TypeLaws.{known_within, all_within}
use Rattle.type_check.proofs.types.Types.meets_mark.Goals as goal

pub returns-in_default-clause-met : goal.returns-in_default-clause-met
returns-in_default-clause-met c = (λ e. cc, λ met. absurd (c.in_default.ensures.none c.requires.known))

pub meets-requires-clause-known : goal.meets-requires-clause-known
meets-requires-clause-known c =
    known_within c.args.self.now c.as_slice-parents.result.now (c.as_slice-parents.ensures.value ∙ c.self.invariant.are_parents ∙ ap type_parents c.self.view_is)
    c.in-Some.number c.args.name.now c.in-Some.ensures.number c.in-Some.ensures.found

pub meets-requires-clause-within : goal.meets-requires-clause-within
meets-requires-clause-within c =
    all_within c.args.self.now c.as_slice-parents.result.now (c.as_slice-parents.ensures.value ∙ c.self.invariant.are_parents ∙ ap type_parents c.self.view_is)

pub mark_up-requires-clause-known : goal.mark_up-requires-clause-known
mark_up-requires-clause-known c =
    known_within c.args.self.now c.as_slice-parents.result.now (c.as_slice-parents.ensures.value ∙ c.self.invariant.are_parents ∙ ap type_parents c.self.view_is)
    c.in-Some.number c.args.name.now c.in-Some.ensures.number c.in-Some.ensures.found

pub mark_up-requires-clause-within : goal.mark_up-requires-clause-within
mark_up-requires-clause-within c =
    all_within c.args.self.now c.as_slice-parents.result.now (c.as_slice-parents.ensures.value ∙ c.self.invariant.are_parents ∙ ap type_parents c.self.view_is)

pub returns-clause-same : goal.returns-clause-same
returns-clause-same c j =
    subst (λ ps. MeetsMark ps c.mark_up.new.marks j ↔ MeetsMark ps c.args.marks.now j) (c.as_slice-parents.ensures.value ∙ c.self.invariant.are_parents ∙ ap type_parents c.self.view_is)
    (c.mark_up.ensures.same j)
