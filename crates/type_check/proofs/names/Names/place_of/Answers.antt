use Rattle.std.proofs.Common.{sym, ◌∙◌}
use Rattle.type_check.proofs.NameIndex.{placed_some, placed_none}
use Rattle.type_check.proofs.names.Names.place_of.Goals as goal

pub returns-in_err-place-clause-none : goal.returns-in_err-place-clause-none
returns-in_err-place-clause-none c =
    placed_none c.self.inside.names.keys c.args.name.now c.args.self.now c.from_residual.result (sym c.self.view_is) (sym c.get_index_of.ensures.index ∙ c.in_err-place.was)

pub returns-clause-found : goal.returns-clause-found
returns-clause-found c =
    (placed_some c.self.inside.names.keys c.args.name.now c.args.self.now c.in_ok-place.place (sym c.self.view_is) (sym c.get_index_of.ensures.index ∙ c.in_ok-place.was)).1

pub returns-clause-place : goal.returns-clause-place
returns-clause-place c =
    (placed_some c.self.inside.names.keys c.args.name.now c.args.self.now c.in_ok-place.place (sym c.self.view_is) (sym c.get_index_of.ensures.index ∙ c.in_ok-place.was)).0
