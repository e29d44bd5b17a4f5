use Rattle.std.proofs.Common.{◌≡◌, ◌↔◌, ◌<◌, ℕ, Bool, false, ltb, List, length, sym, ◌∙◌, inl, inr, subst}
use Rattle.std.specs.Prelude.{IsTrue}
use Rattle.std.proofs.lemmas.Bool.{false≢true, ltb-true, lt-ltb}
use Rattle.grd_base.specs.declared.ids.AtomId.{AtomId}
use Rattle.grd_base.specs.declared.ids.ActionId.{ActionId}
use Rattle.grd_base.specs.declared.limits.Bound.{Bound}
use Rattle.grd_base.specs.declared.limits.Bound.TheVariants.{Steps}
use Rattle.strips_model.specs.Values.{PlainTask}
use Rattle.cost_certificate.specs.Tables.{HasEmptyCut, CutsSuffice}
use Rattle.cost_certificate.proofs.soundness.suffices.Goals as goal

-- where no cut is empty there have to be more of them than the bound has steps
counted : (t : PlainTask) (removed : List ActionId) (sets : List (List AtomId)) (bound : Bound) (r cuts : ℕ) (has_empty : Bool) → bound ≡ Steps r → length sets ≡ cuts
    → (IsTrue has_empty ↔ HasEmptyCut t removed sets) → has_empty ≡ false → IsTrue (ltb r cuts) ↔ CutsSuffice t removed sets bound
counted t removed sets bound r cuts has_empty is long empty none =
    let Suffice : Bound → Type 0 = λ b. IsTrue (ltb r cuts) ↔ CutsSuffice t removed sets b in
    let More : ℕ → Type 0 = λ n. r < n in
    let both : Suffice (Steps r) = (
      λ less. inr (subst More (sym long) (ltb-true r cuts less)),
      λ enough. elim enough [
        | inl some ↦ absurd (false≢true (sym none ∙ empty.1 some))
        | inr less ↦ lt-ltb r cuts (subst More long less)
      ],
    ) in
    subst Suffice (sym is) both

pub returns-else-has_empty : goal.returns-else-has_empty
returns-else-has_empty c t removed sets long empty = counted t removed sets c.args.bound c.in-Steps.r c.args.cuts c.args.has_empty c.in-Steps.is long empty c.if-has_empty.false
