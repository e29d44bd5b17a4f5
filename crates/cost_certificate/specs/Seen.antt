-- What the test of a table keeps while it goes on. Only private contracts speak of it.
use Rattle.std.specs.Prelude.{◌≡◌, ◌↔◌, ℕ, List, ◌++◌, ◌∷◌, [], IsTrue, Contains, All, Any}
use Rattle.grd_base.specs.declared.bits.Bits.{Bits}
use Rattle.grd_base.specs.Bits.{members, IsWhole}
use Rattle.grd_base.specs.declared.ids.AtomId.{AtomId}
use Rattle.grd_base.specs.declared.ids.ActionId.{ActionId}
use Rattle.grd_base.specs.declared.ids.GoalId.{GoalId}
use Rattle.grd_base.specs.declared.limits.Bound.{Bound}
use Rattle.strips_model.specs.Values.{PlainTask}
use Rattle.strips_model.specs.Plans.{State, set_of}
use Rattle.strips_model.specs.Cuts.{cut, IsFamily}
use Rattle.cost_certificate.specs.declared.cuts.Seen.{Seen}
use Rattle.cost_certificate.specs.declared.kinds.CheckKind.{CheckKind}
use Rattle.cost_certificate.specs.Rows.{PlainRow}
use Rattle.cost_certificate.specs.Tables.{IsAtMost, HasRow, HasEmptyCut}
use Rattle.cost_certificate.specs.Faults.{FailsSet}

-- the list has the actions of the set's cut, and no others
abbrev pub IsCutList : PlainTask → List ActionId → State → List ActionId → Type 0
IsCutList t removed u actions = (a : ActionId) → Contains actions a ↔ IsTrue (cut t removed u a)

-- the actions that were seen are those of the cuts of these sets, and it is known whether one of the
-- cuts is empty
pub record IsSeen (t : PlainTask) (removed : List ActionId) (sets : List (List AtomId)) (seen : Seen) : Type 0 where
  pub actions : (a : ActionId) → Contains seen.actions.keys a ↔ Any (λ u. IsTrue (cut t removed (set_of u) a)) sets
  pub empty : IsTrue seen.has_empty ↔ HasEmptyCut t removed sets

-- what is told of a set behind any sets whose cuts were seen: its fault
abbrev pub FailsBehind : PlainTask → GoalId → List ActionId → State → Seen → List AtomId → CheckKind → Type 0
FailsBehind t g removed s seen u kind = (before : List (List AtomId)) → IsSeen t removed before seen → FailsSet t g removed s before u kind

-- or that it belongs to the family, and its cut is seen as well
abbrev pub JoinsFamily : PlainTask → GoalId → List ActionId → State → Seen → Seen → List AtomId → Type 0
JoinsFamily t g removed s old new u =
    (before : List (List AtomId)) → IsSeen t removed before old → IsFamily t g removed s before
    → IsFamily t g removed s (before ++ u ∷ []) × IsSeen t removed (before ++ u ∷ []) new

-- each entry is no higher than some row of its state, and for each row there is an entry of its state
-- that is at least as high
pub record AreBest {W : ℕ} (rows : List PlainRow) (entries : List (Bits W × Bound)) : Type 0 where
  pub whole : All (λ e. IsWhole e.0) entries
  pub shown : All (λ e. HasRow rows (members e.0) e.1) entries
  pub best : All (λ row. Any (λ e. (members e.0 ≡ set_of row.state) × IsAtMost row.bound e.1) entries) rows
