use Rattle.std.proofs.Common.{◌≡◌, ◌∙◌, ℕ, zero, suc, false, List, [], ◌∷◌, sym, ap, subst, arith}
use Rattle.std.specs.Prelude.{Contains}
use Rattle.std.specs.Str.{bytes_eq}
use Rattle.std.proofs.lemmas.Bool.{true≢false}
use Rattle.std.proofs.lemmas.Slice.Eq.{bytes_eq-Decides}
use Rattle.grd_base.specs.declared.roles.FileRole.TheVariants.{Problem}
use Rattle.pddl_reader.specs.Values.{PlainDomain, PlainProblem}
use Rattle.type_check.specs.declared.faults.CheckTypeFault.TheVariants.{Typing}
use Rattle.type_check.specs.declared.faults.TypeKind.TheVariants.{OtherDomain}
use Rattle.type_check.specs.Checks.{fault_at}
use Rattle.type_check.specs.Rules.{is_for_domain}
use Rattle.type_check.specs.Tables.{HasFault}
use Rattle.type_check.proofs.FirstFaults.{fault_here}
use Rattle.type_check.proofs.problem.check_domain.Goals as goal

only_name : (x y : List ℕ) → Contains (y ∷ []) x → y ≡ x
only_name x y (zero, within, is) = is
only_name x y (suc k, within, is) = absurd (omega arith)

differs : (x y : List ℕ) → bytes_eq x y ≡ false → Contains (y ∷ []) x → ⊥
differs x y apart has = true≢false (sym ((bytes_eq-Decides x y).1 (sym (only_name x y has))) ∙ apart)

pub returns-then-not-is_same-clause-fault : goal.returns-then-not-is_same-clause-fault
returns-then-not-is_same-clause-fault c =
    let d = c.args.domain.now in
    let p = c.args.problem.now in
    let apart : bytes_eq p.domain.text d.name.text ≡ false =
    ap (λ (q : PlainProblem). bytes_eq q.domain.text d.name.text) (sym c.problem.view_is)
    ∙ ap (λ (e : PlainDomain). bytes_eq c.problem.inside.domain.text e.name.text) (sym c.domain.view_is) ∙ sym c.is_same.ensures ∙ c.if-not-is_same.true in
    subst (HasFault d (is_for_domain d p ∷ []))
    (ap (λ (q : PlainProblem). Typing (fault_at OtherDomain Problem q.domain.at)) (sym c.problem.view_is) ∙ sym c.fault.ensures)
    (fault_here d (is_for_domain d p) [] (differs p.domain.text d.name.text apart))
