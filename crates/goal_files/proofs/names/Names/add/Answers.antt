use Rattle.std.proofs.Common.{List, ℕ, [], ◌∷◌, ◌++◌, Contains, ap, ◌∙◌, subst}
use Rattle.goal_files.proofs.NumberedNames.{name_behind}
use Rattle.goal_files.proofs.names.Names.add.Goals as goal

pub returns : goal.returns
returns c =
    let is = c.self.view_is in
    name_behind c.self.inside.names.keys c.insert.new.self.keys c.args.name c.in_ok-insert.ensures.keys (λ there. c.requires (subst (λ (names : List (List ℕ)). Contains names c.args.name.now) is there))
    ∙ ap (λ (names : List (List ℕ)). names ++ c.args.name.now ∷ []) is
