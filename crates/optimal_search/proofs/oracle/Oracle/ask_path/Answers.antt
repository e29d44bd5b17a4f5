-- The rows of the search are kept, that of the state among them.
use Rattle.grd_base.specs.declared.limits.Bound.TheVariants.{Steps}
use Rattle.grd_base.specs.Bits.{members}
use Rattle.optimal_search.specs.Oracles.{Knows, known_by}
use Rattle.optimal_search.proofs.AskLaws.{none_weaker}
use Rattle.optimal_search.proofs.oracle.Oracle.ask_path.Goals as goal

pub returns-clause-bound : goal.returns-clause-bound
returns-clause-bound g c =
    let o = c.args.self.now in
    let s = members c.args.s.now in
    none_weaker c.in_ok-path.path (Knows (known_by o.task c.in_ok-path.rows.items) s (Steps c.args.r)) (Knows c.keep.new.self.known s (Steps c.args.r)) (c.in_ok-keep.ensures.held s (Steps c.args.r)) c.in_ok-path.ensures.bound
