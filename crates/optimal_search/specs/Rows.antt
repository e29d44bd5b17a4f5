-- Rows of states as rows of a table. Only private contracts speak of it.
use Rattle.std.specs.Prelude.{ℕ, List, [], ◌∷◌, map, Option, Some, None}
use Rattle.grd_base.specs.declared.bits.Bits.{Bits}
use Rattle.grd_base.specs.declared.ids.ActionId.{ActionId}
use Rattle.grd_base.specs.Bits.{members}
use Rattle.strips_model.specs.Values.{PlainTask}
use Rattle.strips_model.specs.Plans.{State}
use Rattle.strips_model.specs.StateLists.{atoms_in}
use Rattle.search_core.specs.declared.rows.KeptRow.{KeptRow}
use Rattle.cost_certificate.specs.declared.rows.Why.{Why}
use Rattle.cost_certificate.specs.declared.rows.Why.TheVariants.{Cuts, Steps as BySteps}
use Rattle.cost_certificate.specs.Rows.{PlainRow}
use Rattle.cut_bounds.specs.CutMarks.{sets_around}

-- what refutes a row of the state: what is reached around the lists of its mark, or its successors
abbrev pub why_of : PlainTask → List ActionId → State → Option (List (List ActionId)) → Why
why_of t removed s (Some lists) = Cuts (sets_around t removed s lists)
why_of t removed s None = BySteps

-- the row of a row of a search
abbrev pub row_of : {W : ℕ} → PlainTask → List ActionId → KeptRow (Bits W) (List (List ActionId)) → PlainRow
row_of t removed row = record {
  state = atoms_in t (members row.state);
  bound = row.bound;
  why = why_of t removed (members row.state) row.mark;
}

-- the rows of a table for a path: none for an empty one
abbrev pub table_for : {W : ℕ} → PlainTask → List ActionId → List ActionId → List (KeptRow (Bits W) (List (List ActionId))) → List PlainRow
table_for t removed [] rows = []
table_for t removed (a ∷ plan) rows = map (row_of t removed) rows
