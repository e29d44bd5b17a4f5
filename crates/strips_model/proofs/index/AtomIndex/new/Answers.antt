use Rattle.strips_model.proofs.IndexLemmas.{listed_none}
use Rattle.strips_model.proofs.index.AtomIndex.new.Goals as goal

pub returns-clause-empty : goal.returns-clause-empty
returns-clause-empty c n = listed_none (λ row. row.items) c.loop.rows.items n c.loop.invariant.empty
