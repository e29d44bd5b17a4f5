-- What is known of the state is so.
use Rattle.optimal_search.proofs.AskLaws.{none_after}
use Rattle.grd_base.specs.Bits.{members}
use Rattle.optimal_search.proofs.oracle.Oracle.within.Goals as goal

pub returns-clause-none : goal.returns-clause-none
returns-clause-none g c =
    none_after c.args.self.now c.ask_path-found.new.self (members c.args.s.now) c.args.r c.ask_path-found.ensures.alike c.known_sound.ensures c.ask_path-found.result c.ask_path-found.ensures.bound
