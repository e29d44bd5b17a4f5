-- What makes the space a space and its floor a floor: bounds from cuts, and two laws with their proofs.
use Rattle.std.proofs.Common.{◌≡◌, ℕ, ap}
use Rattle.std.specs.Prelude.{◌≤◌, List, length}
use Rattle.std.specs.Ordering.{nat_cmp}
use Rattle.std.specs.Cmp.Lexicographic.{slice_cmp}
use Rattle.std.specs.declared.cmp.Ordering.TheVariants.{Equal}
use Rattle.std.proofs.lemmas.Map.Lookups.{exact_bytes}
use Rattle.grd_base.specs.declared.bits.Bits.{Bits}
use Rattle.grd_base.specs.declared.ids.AtomId.{AtomId}
use Rattle.grd_base.specs.declared.ids.ActionId.{ActionId}
use Rattle.grd_base.specs.declared.ids.GoalId.{GoalId}
use Rattle.grd_base.specs.declared.limits.Bound.{Bound}
use Rattle.grd_base.specs.declared.limits.Bound.TheVariants.{Steps, Never}
use Rattle.grd_base.specs.Bits.{members}
use Rattle.strips_model.specs.Values.{PlainTask}
use Rattle.strips_model.specs.Cuts.{IsFamily}
use Rattle.search_core.specs.Spaces.{IsAdmissible, IsAtLeastLevel, IsAtMostSteps}
use Rattle.cost_certificate.specs.Tables.{HasEmptyCut}
use Rattle.cut_bounds.specs.CutMarks.{IsCutMark}
use Rattle.optimal_search.specs.Space.{successors_of, holds_in, level_in}

-- bit sets that compare equal are the same
pub bits_same : {W : ℕ} (x y : Bits W) → slice_cmp nat_cmp x.words y.words ≡ Equal → x ≡ y
bits_same x y e = ap (λ ws. record { words = ws }) (exact_bytes x.words y.words e)

-- the lists of actions show the bound for the state: they do as cuts, the bound is at least the level,
-- and `Never` where that is none, and at most the least number of steps to a done state
pub record ShowsBound {W : ℕ} (t : PlainTask) (g : GoalId) (removed : List ActionId) (s : Bits W) (lists : List (List ActionId)) (bound : Bound) : Type 0 where
  pub cuts : IsCutMark t g removed (members s) lists bound
  pub level : IsAtLeastLevel bound (level_in t g removed s)
  pub steps : IsAtMostSteps (successors_of t removed) (holds_in t g) s bound

-- there are at least as many sets as the bound has steps; for `Never` one of them has an empty cut
abbrev pub AreEnough : PlainTask → List ActionId → List (List AtomId) → Bound → Type 0
AreEnough t removed sets (Steps n) = n ≤ length sets
AreEnough t removed sets Never = HasEmptyCut t removed sets

-- the sets prove the bound for the state: they are a family for it, and enough
pub record ProvesBound {W : ℕ} (t : PlainTask) (g : GoalId) (removed : List ActionId) (s : Bits W) (sets : List (List AtomId)) (bound : Bound) : Type 0 where
  pub family : IsFamily t g removed (members s) sets
  pub enough : AreEnough t removed sets bound

-- such a bound lies between the level and the least number of steps
pub bound_admissible : {W : ℕ} (t : PlainTask) (g : GoalId) (removed : List ActionId) (s : Bits W) (lists : List (List ActionId)) (bound : Bound) → ShowsBound t g removed s lists bound
    → IsAdmissible (successors_of t removed) (holds_in t g) (level_in t g removed s) s bound
bound_admissible t g removed s lists bound is = record { above_level = is.level; below_steps = is.steps }
