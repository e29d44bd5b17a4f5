use Rattle.optimal_search.specs.Kept.{rows_in}
use Rattle.optimal_search.proofs.KeptLemmas.{AreTaken}
use Rattle.optimal_search.proofs.kept.Kept.raise_all.Given as goal

abbrev pub invariant-loop-row : goal.invariant-loop-row
invariant-loop-row g l = AreTaken (rows_in l.fn.self.proved.entries) (rows_in l.self.proved.entries) l.fn.rows.items l.row-iterator.rest.items
