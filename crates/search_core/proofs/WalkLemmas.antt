-- Walks that go on by one step.
use Rattle.std.proofs.Common.{◌≡◌, List, [], ◌∷◌, ◌++◌, refl, ap}
use Rattle.std.specs.Prelude.{Contains}
use Rattle.std.proofs.lemmas.List.{map_push}
use Rattle.grd_base.specs.declared.ids.ActionId.{ActionId}
use Rattle.search_core.specs.Spaces.{Successors, IsWalk, end_of, states_on}

module _ {S : Type 0} where
  pub IsWalk-push : (next : Successors S) (s : S) (walk : List (ActionId × S)) (step : ActionId × S) → IsWalk next s walk → Contains (next (end_of s walk)) step → IsWalk next s (walk ++ step ∷ [])
  IsWalk-push next s [] step is last = (last, tt)
  IsWalk-push next s (first ∷ rest) step is last = (is.0, IsWalk-push next first.1 rest step is.1 last)

  pub end_of-push : (s : S) (walk : List (ActionId × S)) (step : ActionId × S) → end_of s (walk ++ step ∷ []) ≡ step.1
  end_of-push s [] step = refl
  end_of-push s (first ∷ rest) step = end_of-push first.1 rest step

  pub states_on-push : (s : S) (walk : List (ActionId × S)) (step : ActionId × S) → states_on s (walk ++ step ∷ []) ≡ states_on s walk ++ step.1 ∷ []
  states_on-push s walk step = ap (λ others. s ∷ others) (map_push (λ step. step.1) walk step)
