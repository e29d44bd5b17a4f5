-- The report of costs, and of how long two goals can't be told apart.
use Rattle.std.specs.Prelude.{ℕ, ◌+◌, ◌<◌, map, List, [], ◌∷◌, ◌++◌, length, All, codes, Option, Some, None, slice_get, unwrap_or}
use Rattle.std.specs.List.{flat_map}
use Rattle.std.specs.Fmt.{decimal}
use Rattle.grd_base.specs.declared.ids.ActionId.{ActionId}
use Rattle.type_check.specs.Values.{PlainTyped}
use Rattle.type_check.specs.Ground.{action_text}
use Rattle.ground_all.specs.Grounding.{instances}
use Rattle.strips_model.specs.Values.{PlainWitness}

-- the text of the action with this number
abbrev pub name_of : List (List ℕ) → ActionId → List ℕ
name_of names a = unwrap_or (slice_get names a.0) []

-- a space and an action, for each action
abbrev pub plan_text : List (List ℕ) → List ActionId → List ℕ
plan_text names plan = flat_map (λ a. codes " " ++ name_of names a) plan

-- the cost of a goal with this optimal plan, or without a plan
abbrev pub cost_text : List (List ℕ) → Option (List ActionId) → List ℕ
cost_text names None = codes "none"
cost_text names (Some plan) = decimal (length plan) ++ plan_text names plan

-- the line of the goal with this number, counted from 1
abbrev pub cost_line : List (List ℕ) → ℕ → Option (List ActionId) → List ℕ
cost_line names goal found = codes "goal " ++ decimal goal ++ codes " cost " ++ cost_text names found ++ codes "\n"

abbrev pub cost_lines : List (List ℕ) → ℕ → List (Option (List ActionId)) → List ℕ
cost_lines names goal [] = []
cost_lines names goal (found ∷ rest) = cost_line names goal found ++ cost_lines names (goal + 1) rest

-- the report of the costs, over the names of the actions
abbrev pub cost_report : List (List ℕ) → List (Option (List ActionId)) → List ℕ
cost_report names answers = codes "goals " ++ decimal (length answers) ++ codes "\n" ++ cost_lines names 1 answers

-- the line of a plan of the goal with this number, counted from 1
abbrev pub plan_line : List (List ℕ) → ℕ → List ActionId → List ℕ
plan_line names goal plan = codes "plan " ++ decimal goal ++ plan_text names plan ++ codes "\n"

-- the length of the sequence and its two goals, which count from 1; the sequence; the two plans
abbrev pub witness_lines : List (List ℕ) → PlainWitness → List ℕ
witness_lines names w =
    codes "wcd " ++ decimal (length w.prefix)
    ++ codes " goals " ++ decimal (w.goals.0.0 + 1) ++ codes " " ++ decimal (w.goals.1.0 + 1) ++ codes "\n"
    ++ codes "prefix" ++ plan_text names w.prefix ++ codes "\n"
    ++ plan_line names (w.goals.0.0 + 1) w.plans.0
    ++ plan_line names (w.goals.1.0 + 1) w.plans.1

abbrev pub wcd_lines : List (List ℕ) → Option PlainWitness → List ℕ
wcd_lines names None = codes "wcd none\n"
wcd_lines names (Some w) = witness_lines names w

-- the report of the costs and the wcd
abbrev pub wcd_report : List (List ℕ) → List (Option (List ActionId)) → Option PlainWitness → List ℕ
wcd_report names answers wcd = cost_report names answers ++ wcd_lines names wcd

-- the texts of the typed instances of the actions, by their numbers
abbrev pub action_names : PlainTyped → List (List ℕ)
action_names typed = map (action_text typed) (instances typed)

-- the witness has actions below this number alone
pub record IsOver (actions : ℕ) (w : PlainWitness) : Type 0 where
  pub prefix : All (λ a. a.0 < actions) w.prefix
  pub first : All (λ a. a.0 < actions) w.plans.0
  pub second : All (λ a. a.0 < actions) w.plans.1
