use Rattle.std.proofs.Common.{◌∙◌, ap, subst, Contains}
use Rattle.std.specs.Option.{IfNone}
use Rattle.type_check.specs.Types.{type_names}
use Rattle.type_check.proofs.types.Types.number_of.Goals as goal

pub returns-clause-none : goal.returns-clause-none
returns-clause-none c =
    subst (λ names. IfNone c.place_of.result (Contains names c.args.name.now → ⊥)) (c.self.invariant.are_names ∙ ap type_names c.self.view_is) c.place_of.ensures.none
