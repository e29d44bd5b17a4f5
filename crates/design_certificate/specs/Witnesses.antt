-- Two plans that show a common sequence, by claimed costs.
use Rattle.std.specs.Prelude.{ℕ, ◌<◌, List, length, Option}
use Rattle.grd_base.specs.declared.ids.ActionId.{ActionId}
use Rattle.grd_base.specs.declared.ids.GoalId.{GoalId}
use Rattle.strips_model.specs.Values.{PlainTask, PlainWitness}
use Rattle.strips_model.specs.Plans.{IsPlan}
use Rattle.strips_model.specs.Agents.{BeginsWith}
use Rattle.design_certificate.specs.Designs.{Gives}

-- a plan of the goal without the removed actions, as long as the goal is said to cost
abbrev pub IsPlanAsLong : PlainTask → List (Option ℕ) → List ActionId → GoalId → List ActionId → Type 0
IsPlanAsLong t costs removed g plan = IsPlan t g removed plan × Gives costs g (length plan)

-- two goals, the first below the second, each with such a plan that begins with the sequence
pub record IsShownWitness (t : PlainTask) (costs : List (Option ℕ)) (removed : List ActionId) (w : PlainWitness) : Type 0 where
  pub rise : w.goals.0.0 < w.goals.1.0
  pub first : IsPlanAsLong t costs removed w.goals.0 w.plans.0
  pub second : IsPlanAsLong t costs removed w.goals.1 w.plans.1
  pub first_begins : BeginsWith w.plans.0 w.prefix
  pub second_begins : BeginsWith w.plans.1 w.prefix
