use Rattle.std.proofs.Common.{ℕ, ◌∙◌, arith, rules}
use Rattle.grd_base.specs.declared.ids.GoalId.{GoalId}
use Rattle.plain_search.specs.Walks.{visits}
use Rattle.plain_search.proofs.WalkPlanLemmas.{passed_on}
use Rattle.plain_search.proofs.WitnessLemmas.{costs_right, few_planned, none_planned, dearest_costs, dearest_goal, dearest_deep, answer_in_range, answer_goals}
use Rattle.plain_search.proofs.common.longest_common.Goals as goal

pub returns-then-count_planned-lt2-clause-right : goal.returns-then-count_planned-lt2-clause-right
returns-then-count_planned-lt2-clause-right g c =
    let are = costs_right (λ plan. plan.items) c.args.task.now c.args.found.now c.deref.result.now c.requires.right (c.deref.ensures.value ∙ c.in_ok-costs.ensures) in
    few_planned c.args.task.now c.deref.result.now are (omega (arith, c.count_planned.ensures))

pub dearest-requires : goal.dearest-requires
dearest-requires g c =
    let are = costs_right (λ plan. plan.items) c.args.task.now c.args.found.now c.deref-2.result.now c.requires.right (c.deref-2.ensures.value ∙ c.in_ok-costs.ensures) in
    are.each_goal

pub returns-in_default-clause-right : goal.returns-in_default-clause-right
returns-in_default-clause-right g c =
    let are = costs_right (λ plan. plan.items) c.args.task.now c.args.found.now c.deref-2.result.now c.requires.right (c.deref-2.ensures.value ∙ c.in_ok-costs.ensures) in
    none_planned c.args.task.now c.deref-2.result.now are c.in_default.ensures

pub layers_for-requires : goal.layers_for-requires
layers_for-requires g c =
    let are = costs_right (λ plan. plan.items) c.args.task.now c.args.found.now c.deref-2.result.now c.requires.right (c.deref-2.ensures.value ∙ c.in_ok-costs.ensures) in
    let most : GoalId × ℕ = (c.in-Some.goal, c.in-Some.cost) in
    rw c.in_ok-moves.ensures (
      search rules,
      (
        c.requires.width,
        (
          c.requires.atoms,
          (
            dearest_goal c.args.task.now c.deref-2.result.now are most c.in-Some.ensures,
            (dearest_costs c.args.task.now c.deref-2.result.now are most c.in-Some.ensures, c.requires.limit),
          ),
        ),
      ),
    )

pub returns-in_err-layers-clause-many : goal.returns-in_err-layers-clause-many
returns-in_err-layers-clause-many g c = λ goal e.
    let error = c.from_residual-in_err-layers in
    rw (← c.in_ok-moves.ensures) (c.in_err-layers.ensures.many goal (passed_on error.result _ _ error.ensures.1 e))

pub wcd_in-requires : goal.wcd_in-requires
wcd_in-requires g c =
    let are = costs_right (λ plan. plan.items) c.args.task.now c.args.found.now c.deref-2.result.now c.requires.right (c.deref-2.ensures.value ∙ c.in_ok-costs.ensures) in
    let costs = costs_right (λ plan. plan.items) c.args.task.now c.args.found.now c.deref-3.result.now c.requires.right (c.deref-3.ensures.value ∙ c.in_ok-costs.ensures) in
    let most : GoalId × ℕ = (c.in-Some.goal, c.in-Some.cost) in
    let layered = rw c.in_ok-moves.ensures at c.in_ok-layers.ensures.layered in
    rw c.in_ok-moves.ensures (
      search rules,
      (
        c.requires.width,
        (
          c.requires.atoms,
          (
            costs,
            dearest_deep c.args.task.now c.deref-2.result.now are most c.in-Some.ensures (visits c.in_ok-layers.layers.visited) c.in_ok-layers.layers.depths.items layered,
          ),
        ),
      ),
    )

pub returns-clause-in_range : goal.returns-clause-in_range
returns-clause-in_range g c = answer_in_range c.args.task.now c.in_ok-answer.answer (rw c.in_ok-moves.ensures at c.in_ok-answer.ensures)

pub returns-clause-goals : goal.returns-clause-goals
returns-clause-goals g c = answer_goals c.args.task.now c.in_ok-answer.answer (rw c.in_ok-moves.ensures at c.in_ok-answer.ensures)
