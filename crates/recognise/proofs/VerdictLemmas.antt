-- What an oracle of the observed task, asked from its start within the cost, says of the verdict.
use mathlib.Core.Path.{ap₂}
use Rattle.std.proofs.Common.{◌≡◌, ◌↔◌, inl, inr, ℕ, ◌≤◌, ◌<◌, List, [], ◌∷◌, ◌++◌, length, map, get_or, eqb, sym, ap, subst, ◌∙◌, arith, Option, Some, None}
use Rattle.std.specs.Prelude.{All, slice_get}
use Rattle.std.specs.Option.{option_map_or}
use Rattle.std.proofs.lemmas.Bool.{ne_eqb}
use Rattle.std.proofs.lemmas.List.{length-map}
use Rattle.std.proofs.lemmas.List.Elements.{All-weaker}
use Rattle.std.proofs.lemmas.List.Folds.{list_any_none}
use Rattle.std.proofs.lemmas.Option.{slice_get-get_or}
use Rattle.grd_base.specs.declared.ids.AtomId.{AtomId}
use Rattle.grd_base.specs.declared.ids.ActionId.{ActionId}
use Rattle.grd_base.specs.declared.ids.GoalId.{GoalId}
use Rattle.grd_base.specs.declared.limits.Bound.TheVariants.{Steps}
use Rattle.grd_base.specs.Counts.{MoreThan}
use Rattle.strips_model.specs.Values.{PlainTask, IsTask}
use Rattle.strips_model.specs.Agents.{Embeds}
use Rattle.strips_model.specs.Plans.{State, start_of, Reaches, IsPlan, IsCost, IsOptimal, IsOver, IsRecognised}
use Rattle.strips_model.specs.Reached.{IsNearWithin, IsNearObserved}
use Rattle.cost_certificate.specs.declared.found.Verdict.{Verdict}
use Rattle.cost_certificate.specs.Found.{PlainCost}
use Rattle.cost_certificate.specs.Rows.{PlainRow}
use Rattle.cost_certificate.specs.Tables.{HasRow, IsRowOver, IsValidTable}
use Rattle.optimal_search.specs.Oracles.{PlainOracle, IsAlike}
use Rattle.optimal_search.proofs.ListLemmas.{at_push}
use Rattle.strips_model.specs.Observed.{observed_task, read_as}
use Rattle.cost_certificate.specs.Verdicts.{ShowsNo, plain_verdict, IsRightVerdict}

-- the start has atoms of the task alone
pub start_over : (t : PlainTask) (s : State) → IsTask t → s ≡ start_of t → IsOver t s
start_over t s is same = λ n high.
    ap (λ (x : State). x n) same ∙ list_any_none (λ (a : AtomId). eqb a.0 n) t.init (λ i d within. ne_eqb (get_or t.init i d).0 n (omega (arith, high, is.init.below i d within)))

module _ (t : PlainTask) (os : List ActionId) (g : GoalId) where
  -- a goal without a plan is not recognised
  pub none_right : (table : List PlainRow) → IsCost t g [] None → table ≡ [] → (IsRecognised t g os → ⊥) × ShowsNo (observed_task t os) g table None
  none_right table none empty = (λ is. none is.plan is.optimal.0, empty)

  module _ (c : ℕ) (cost : IsCost t g [] (Some c)) where
    -- a short path of the observed task that reads as a plan reads as an optimal one
    pub yes_right : (p plan : List ActionId) → plan ≡ map (read_as t os) p → length p ≤ c → IsPlan t g [] (map (read_as t os) p) × Embeds os (map (read_as t os) p)
        → IsOptimal t g [] plan × Embeds os plan
    yes_right p plan is short (leads, embeds) =
        let read = map (read_as t os) p in
        let least : c ≤ length read = cost.1 read leads in
        let long : c ≡ length read = omega (arith, least, short, length-map p (read_as t os)) in
        subst (λ (xs : List ActionId). IsOptimal t g [] xs × Embeds os xs) (sym is) ((leads, subst (λ (n : ℕ). IsCost t g [] (Some n)) long cost), embeds)

    -- where each path of the observed task is longer than the cost, the goal is not recognised
    not_recognised : (IsRecognised t g os ↔ IsCost (observed_task t os) g [] (Some c)) → ((p : List ActionId) → IsPlan (observed_task t os) g [] p → c < length p) → IsRecognised t g os → ⊥
    not_recognised law longer is =
        let least = law.0 is in
        let high : c < length least.0.0 = longer least.0.0 least.0.2 in
        omega (arith, high, least.0.1)

    -- what is near within the cost is near
    near_observed : (u : State) → IsNearWithin (observed_task t os) g [] (start_of (observed_task t os)) c u → IsNearObserved t os g u
    near_observed u near = record { cost = c; is_cost = cost; near = near }

-- an oracle that is asked about the observed task from its start, within what its goal costs in the task
module _ (t : PlainTask) (os : List ActionId) (x : PlainOracle) (made : x.task ≡ observed_task t os) (none : x.removed ≡ []) (s : State) (start : s ≡ start_of x.task) where
  from_start : s ≡ start_of (observed_task t os)
  from_start = start ∙ ap start_of made

  -- what it is asked about from the start is a plan of the observed task
  reaches_plan : (p : List ActionId) → Reaches x.task x.goal x.removed s p ≡ IsPlan (observed_task t os) x.goal [] p
  reaches_plan p = ap₂ (λ (u : PlainTask) (xs : List ActionId). Reaches u x.goal xs s p) made none ∙ ap (λ (v : State). Reaches (observed_task t os) x.goal [] v p) from_start

  -- a path that it finds is a plan of the observed task
  pub found_plan : (p : List ActionId) → Reaches x.task x.goal x.removed s p → IsPlan (observed_task t os) x.goal [] p
  found_plan p reaches = subst (λ (T : Type 0). T) (reaches_plan p) reaches

  module _ (c : ℕ) (cost : IsCost t x.goal [] (Some c)) where
    -- more states that are near within the cost are more near states
    pub many_near : (limit : ℕ) → MoreThan limit (IsNearWithin x.task x.goal x.removed s c) → MoreThan limit (IsNearObserved t os x.goal)
    many_near limit more =
        let Near : PlainTask → List ActionId → State → State → Type 0 = λ u xs v w. IsNearWithin u x.goal xs v c w in
        let by_task : All (Near (observed_task t os) x.removed s) more.items = subst (λ (u : PlainTask). All (Near u x.removed s) more.items) made more.have in
        let by_removed : All (Near (observed_task t os) [] s) more.items = subst (λ (xs : List ActionId). All (Near (observed_task t os) xs s) more.items) none by_task in
        let near : All (Near (observed_task t os) [] (start_of (observed_task t os))) more.items = subst (λ (v : State). All (Near (observed_task t os) [] v) more.items) from_start by_removed in
        record {
          items = more.items;
          many = more.many;
          differ = more.differ;
          have = All-weaker (Near (observed_task t os) [] (start_of (observed_task t os))) (IsNearObserved t os x.goal) (near_observed t os x.goal c cost) more.items near;
        }

    -- where it finds no path, the goal is not recognised, as a table of what it knows shows
    pub no_right : (y : PlainOracle) (table : List PlainRow) → IsAlike x y → IsValidTable y.task y.goal y.removed table → All (IsRowOver y.task) table → HasRow table s (Steps c)
        → ((p : List ActionId) → Reaches x.task x.goal x.removed s p → c < length p) → (IsRecognised t x.goal os ↔ IsCost (observed_task t os) x.goal [] (Some c))
        → (IsRecognised t x.goal os → ⊥) × ShowsNo (observed_task t os) x.goal table (Some c)
    no_right y table alike is_valid over row longer law =
        let task : y.task ≡ observed_task t os = sym alike.task ∙ made in
        let removed : y.removed ≡ [] = sym alike.removed ∙ none in
        let by_task : IsValidTable (observed_task t os) y.goal y.removed table = subst (λ (u : PlainTask). IsValidTable u y.goal y.removed table) task is_valid in
        let by_goal : IsValidTable (observed_task t os) x.goal y.removed table = subst (λ (h : GoalId). IsValidTable (observed_task t os) h y.removed table) (sym alike.goal) by_task in
        let valid : IsValidTable (observed_task t os) x.goal [] table = subst (λ (xs : List ActionId). IsValidTable (observed_task t os) x.goal xs table) removed by_goal in
        let from : HasRow table (start_of (observed_task t os)) (Steps c) = subst (λ (v : State). HasRow table v (Steps c)) from_start row in
        let each : All (IsRowOver (observed_task t os)) table = subst (λ (u : PlainTask). All (IsRowOver u) table) task over in (
          not_recognised t os x.goal c cost law (λ p plan. longer p (subst (λ (T : Type 0). T) (sym (reaches_plan p)) plan)),
          (valid, from, each),
        )

-- the verdicts on the first goals are right
abbrev pub AreRight : PlainTask → List ActionId → List PlainCost → List Verdict → Type 0
AreRight t os costs verdicts = (k : ℕ) (x : PlainCost) (verdict : Verdict) → slice_get costs k ≡ Some x → slice_get verdicts k ≡ Some verdict
    → IsRightVerdict t os (record { 0 = k }) x.cost (plain_verdict verdict)

module _ (t : PlainTask) (os : List ActionId) (costs : List PlainCost) (i : ℕ) (x : PlainCost) (low : i < length costs) (at : x ≡ get_or costs i x) where
  -- the cost of the goal with this number
  pub cost_at : (least : Option ℕ) → x.cost ≡ least → ((k : ℕ) (y : PlainCost) → slice_get costs k ≡ Some y → IsCost t (record { 0 = k }) [] y.cost) → IsCost t (record { 0 = i }) [] least
  cost_at least is right = subst (λ (o : Option ℕ). IsCost t (record { 0 = i }) [] o) is (right i x (slice_get-get_or costs i x low ∙ ap Some (sym at)))

  -- one right verdict more
  pub right_push : (least : Option ℕ) → x.cost ≡ least → (xs ys : List Verdict) (y : Verdict) → ys ≡ xs ++ y ∷ [] → length xs ≡ i → IsRightVerdict t os (record { 0 = i }) least (plain_verdict y)
      → AreRight t os costs xs → AreRight t os costs ys
  right_push least is xs ys y more each here right k z verdict at_cost at_verdict =
      elim (at_push xs y k verdict (ap (λ (zs : List Verdict). slice_get zs k) (sym more) ∙ at_verdict)) [
        | inl old ↦ right k z verdict at_cost old
        | inr new ↦
            let k_is : k ≡ i = new.0 ∙ each in
            let same : Some x ≡ Some z = ap Some at ∙ sym (slice_get-get_or costs i x low) ∙ ap (slice_get costs) (sym k_is) ∙ at_cost in
            let z_is : least ≡ z.cost = sym is ∙ ap (λ (o : Option PlainCost). option_map_or (λ (u : PlainCost). u.cost) o None) same in
            let one : IsRightVerdict t os (record { 0 = i }) z.cost (plain_verdict y) = subst (λ (o : Option ℕ). IsRightVerdict t os (record { 0 = i }) o (plain_verdict y)) z_is here in
            let last : IsRightVerdict t os (record { 0 = i }) z.cost (plain_verdict verdict) = subst (λ (v : Verdict). IsRightVerdict t os (record { 0 = i }) z.cost (plain_verdict v)) new.1 one in
            subst (λ (n : ℕ). IsRightVerdict t os (record { 0 = n }) z.cost (plain_verdict verdict)) (sym k_is) last
      ]
