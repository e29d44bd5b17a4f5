-- What is asked about agents that follow plans: costs and optimal plans, which goals are recognised, which
-- sequences are common to two goals, which goals stay live, and which design is best. All this uses of a task only which sequences
-- are plans of which goal without which actions, so it is stated over any such relation. The plans of a task
-- are one: `IsPlan` of that task.
use Rattle.std.specs.Prelude.{◌≡◌, ◌≢◌, ◌↔◌, ℕ, ◌<◌, ◌≤◌, ◌⊎◌, List, [], ◌∷◌, ◌++◌, length, Option, Some, None, slice_get, Contains}
use Rattle.grd_base.specs.declared.ids.ActionId.{ActionId}
use Rattle.grd_base.specs.declared.ids.GoalId.{GoalId}
use Rattle.grd_base.specs.Rising.{IsRisingBy}

-- which sequences are plans of which goal without which removed actions
abbrev pub Plans : Type 1
Plans = GoalId → List ActionId → List ActionId → Type 0

-- the least length of a sequence with the property: some such sequence has it, and none is shorter; or none,
-- where no sequence has the property
abbrev pub IsLeastLength : (List ActionId → Type 0) → Option ℕ → Type 0
IsLeastLength Q (Some n) = ((p : List ActionId) × (length p ≡ n) × Q p) × ((p : List ActionId) → Q p → n ≤ length p)
IsLeastLength Q None = (p : List ActionId) → Q p → ⊥

-- the cost of the goal: the least length of a plan
abbrev pub IsCostAmong : Plans → GoalId → List ActionId → Option ℕ → Type 0
IsCostAmong plans g removed c = IsLeastLength (plans g removed) c

-- a plan whose length is the cost
abbrev pub IsOptimalAmong : Plans → GoalId → List ActionId → List ActionId → Type 0
IsOptimalAmong plans g removed p = plans g removed p × IsCostAmong plans g removed (Some (length p))

-- the sequence embeds the observations: they occur in it in their order, each at a place behind
-- that of the one before (Ramírez and Geffner 2009); the next place either carries the next
-- observation or is passed over
abbrev pub Embeds : List ActionId → List ActionId → Type 0
Embeds [] p = Unit {0}
Embeds (o ∷ os) [] = ⊥
Embeds (o ∷ os) (a ∷ p) = ((o ≡ a) × Embeds os p) ⊎ Embeds (o ∷ os) p

-- some optimal plan of the goal embeds the observations (Ramírez and Geffner 2009)
pub record IsRecognisedAmong (plans : Plans) (g : GoalId) (os : List ActionId) : Type 0 where
  pub plan : List ActionId
  pub optimal : IsOptimalAmong plans g [] plan
  pub embeds : Embeds os plan

-- the plan begins with the sequence
abbrev pub BeginsWith : List ActionId → List ActionId → Type 0
BeginsWith plan q = (rest : List ActionId) × (plan ≡ q ++ rest)

-- some optimal plan of the goal, without the removed actions, begins with the sequence
abbrev pub BeginsOptimalAmong : Plans → GoalId → List ActionId → List ActionId → Type 0
BeginsOptimalAmong plans g removed q = (plan : List ActionId) × IsOptimalAmong plans g removed plan × BeginsWith plan q

-- the sequence is common to the two goals: they are different, and it begins an optimal plan of each. Two
-- goals with the same atoms are different goals (this project's own wording, after Keren, Gal and Karpas 2014)
pub record IsCommonAmong (plans : Plans) (removed : List ActionId) (i j : GoalId) (q : List ActionId) : Type 0 where
  pub different : i ≢ j
  pub first : BeginsOptimalAmong plans i removed q
  pub second : BeginsOptimalAmong plans j removed q

-- the goal has a plan without the removed actions
abbrev pub HasPlanAmong : Plans → GoalId → List ActionId → Type 0
HasPlanAmong plans g removed = (plan : List ActionId) × plans g removed plan

-- fewer than two goals have plans without the removed actions
abbrev pub HaveFewPlansAmong : Plans → List ActionId → Type 0
HaveFewPlansAmong plans removed = (i j : GoalId) → i ≢ j → HasPlanAmong plans i removed → HasPlanAmong plans j removed → ⊥

-- the greatest length of what two goals share, by a relation that says which sequences they do: some
-- sequence of that length is shared by two goals, and none that is longer is; or none, where fewer than
-- two goals have plans
abbrev pub IsGreatestAmong : Plans → List ActionId → (GoalId → GoalId → List ActionId → Type 0) → Option ℕ → Type 0
IsGreatestAmong plans removed Share (Some n) =
    ((i j : GoalId) × (q : List ActionId) × (length q ≡ n) × Share i j q)
    × ((i j : GoalId) (q : List ActionId) → Share i j q → length q ≤ n)
IsGreatestAmong plans removed Share None = HaveFewPlansAmong plans removed

-- the worst-case distinctiveness: the greatest length of a common sequence
abbrev pub IsWcdAmong : Plans → List ActionId → Option ℕ → Type 0
IsWcdAmong plans removed = IsGreatestAmong plans removed (IsCommonAmong plans removed)

-- the goals, each once and rising, that have an optimal plan which begins with the sequence: those that an
-- agent may still follow that took it
pub record AreLiveAmong (plans : Plans) (q : List ActionId) (goals : List GoalId) : Type 0 where
  pub rise : IsRisingBy (λ g. g.0) goals
  pub live : (g : GoalId) → Contains goals g ↔ BeginsOptimalAmong plans g [] q

-- each goal costs without the removed actions what it costs with all, or has no plan either way
abbrev pub KeepsCostsAmong : Plans → List ActionId → Type 0
KeepsCostsAmong plans removed = (g : GoalId) (c : Option ℕ) → IsCostAmong plans g [] c → IsCostAmong plans g removed c

-- a best design for a budget: at most so many actions that keep the costs, and each other such set leaves a
-- greater worst-case distinctiveness, or the same one and has no fewer members. A set is given by a list of
-- its members in any order, and the other sets range over all lists of action numbers: a list of n actions
-- has at most n members, and each set of at most n members is such a list. Where fewer than two goals have
-- plans nothing is removed (this project's own wording, after Keren, Gal and Karpas 2014)
pub record IsBestAmong (plans : Plans) (budget : ℕ) (removed : List ActionId) : Type 0 where
  pub few : length removed ≤ budget
  pub keeps : KeepsCostsAmong plans removed
  pub least : (other : List ActionId) → length other ≤ budget → KeepsCostsAmong plans other
      → (w v : ℕ) → IsWcdAmong plans removed (Some w) → IsWcdAmong plans other (Some v)
      → (w < v) ⊎ ((w ≡ v) × (length removed ≤ length other))
  pub none : IsWcdAmong plans [] None → removed ≡ []

-- one set of removed actions for each budget from 0 on, which is best for it
abbrev pub IsFrontAmong : Plans → List (List ActionId) → Type 0
IsFrontAmong plans front = (budget : ℕ) (removed : List ActionId) → slice_get front budget ≡ Some removed → IsBestAmong plans budget removed
