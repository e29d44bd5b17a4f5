use Rattle.std.specs.Prelude.{◌≡◌, [], length, All}
use Rattle.strips_model.proofs.index.AtomIndex.new.Given as goal

abbrev pub invariant-loop : goal.invariant-loop
invariant-loop l = record { count : length l.rows.items ≡ l.counter; empty : All (λ row. row.items ≡ []) l.rows.items }
