use Rattle.std.proofs.Common.{sym, ◌∙◌, arith, true≢false}
use Rattle.plain_search.proofs.CommonLemmas.{cost_is, cost_is_not}
use Rattle.plain_search.proofs.live.ends.Goals as goal

pub returns-then-eq : goal.returns-then-eq
returns-then-eq g c =
    let cost = cost_is c.args.task.now c.args.costs.now c.requires.costs c.args.goal c.args.depth (omega (arith, c.requires.costs.each_goal)) (sym c.eq.ensures ∙ c.if-eq.true) in
    (λ h. (cost, sym c.holds.ensures ∙ h), λ ends. c.holds.ensures ∙ ends.1)

pub returns-else-eq : goal.returns-else-eq
returns-else-eq g c = (
  λ h. absurd (true≢false (sym h ∙ c.if-eq.false)),
  λ ends.
      absurd (cost_is_not c.args.task.now c.args.costs.now c.requires.costs c.args.goal c.args.depth (omega (arith, c.requires.costs.each_goal)) (sym c.eq.ensures ∙ c.if-eq.false) ends.0),
)
