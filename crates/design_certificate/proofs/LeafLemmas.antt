-- What the test of a leaf tells.
use Rattle.std.proofs.Common.{◌≡◌, ◌↔◌, ℕ, Bool, List, sym, ◌∙◌, subst, Option, Some}
use Rattle.std.specs.Prelude.{IsTrue}
use Rattle.grd_base.specs.declared.ids.GoalId.{GoalId}
use Rattle.grd_base.specs.declared.limits.Bound.TheVariants.{Steps}
use Rattle.strips_model.specs.Values.{PlainTask}
use Rattle.strips_model.specs.Plans.{start_of}
use Rattle.cost_certificate.specs.Rows.{PlainRow}
use Rattle.cost_certificate.specs.Tables.{HasRow}
use Rattle.design_certificate.specs.Designs.{Gives}
use Rattle.design_certificate.specs.Trees.{RefuteCost}

-- a goal has one number
pub one_number : (costs : List (Option ℕ)) (g : GoalId) (c d : ℕ) → Gives costs g c → Gives costs g d → c ≡ d
one_number costs g c d is also = let same : Some (Some c) ≡ Some (Some d) = sym is ∙ also in two c d same
  where
    two : (x y : ℕ) → Some (Some x) ≡ Some (Some y) → x ≡ y
    two x y e = cc

pub refute_tells : (t : PlainTask) (costs : List (Option ℕ)) (g : GoalId) (c : ℕ) (rows table : List PlainRow) (b : Bool) → Gives costs g c → rows ≡ table
    → (IsTrue b ↔ HasRow rows (start_of t) (Steps c)) → IsTrue b ↔ RefuteCost t costs g table
refute_tells t costs g c rows table b gives same tells = (
  λ h. (c, gives, subst (λ xs. HasRow xs (start_of t) (Steps c)) same (tells.0 h)),
  λ refutes. tells.1 (subst (λ n. HasRow rows (start_of t) (Steps n)) (one_number costs g refutes.0 c refutes.1 gives) (subst (λ xs. HasRow xs (start_of t) (Steps refutes.0)) (sym same) refutes.2)),
)
