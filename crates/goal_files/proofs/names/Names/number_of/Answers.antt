use Rattle.std.proofs.Common.{◌≡◌, List, ℕ, Some, slice_get, sym, subst}
use Rattle.goal_files.proofs.NumberedNames.{name_found, name_missing}
use Rattle.goal_files.proofs.names.Names.number_of.Goals as goal

pub returns-in_err-number : goal.returns-in_err-number
returns-in_err-number c =
    rw c.from_residual.ensures
    (λ number at.
    name_missing c.self.inside.names.keys c.args.name.now number (sym c.in_err-number.ensures.found)
    (subst (λ (names : List (List ℕ)). slice_get names number ≡ Some c.args.name.now) (sym c.self.view_is) at))

pub returns : goal.returns
returns c =
    subst (λ (names : List (List ℕ)). slice_get names c.in_ok-number.number ≡ Some c.args.name.now) c.self.view_is
    (name_found c.self.inside.names.keys c.args.name.now c.in_ok-number.number c.in_ok-number.ensures.index)
