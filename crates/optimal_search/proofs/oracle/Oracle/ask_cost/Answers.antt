-- The rows of the search are kept, the one for the start among them.
use Rattle.optimal_search.specs.Oracles.{known_by}
use Rattle.optimal_search.proofs.AskLaws.{cost_grows}
use Rattle.optimal_search.proofs.oracle.Oracle.ask_cost.Goals as goal

pub returns-clause-start : goal.returns-clause-start
returns-clause-start g c =
    let o = c.args.self.now in
    cost_grows o.task (known_by o.task c.in_ok-cost.rows.items) c.keep.new.self.known c.in_ok-cost.cost c.in_ok-keep.ensures.held c.in_ok-cost.ensures.start
