use Rattle.std.proofs.Common.{◌≡◌, Bool, true, false, ℕ, List, [], ◌∷◌, sym, ap, ◌∙◌, subst}
use Rattle.std.specs.Prelude.{Contains}
use Rattle.std.proofs.lemmas.Bool.{true≢false}
use Rattle.pddl_reader.specs.Forms.{Word}
use Rattle.type_check.specs.Rules.{is_new}
use Rattle.type_check.specs.Tables.{AddsTo, HasFault}
use Rattle.type_check.proofs.FirstFaults.{fault_here}
use Rattle.type_check.proofs.declared.add_new.Goals as goal

-- a name that was not added was there
known : (old new : List (List ℕ)) (name : List ℕ) (added : Bool) → added ≡ false → AddsTo old new name added → Contains old name
known old new name true fails h = absurd (true≢false fails)
known old new name false fails h = h.0

pub returns-then-not-branch-clause-fault : goal.returns-then-not-branch-clause-fault
returns-then-not-branch-clause-fault c d =
    let old = c.args.names.now in
    let check = is_new c.args.file old c.args.name.now in
    let same = c.as_str.ensures.value ∙ ap (λ (w : Word). w.text) c.name.view_is in
    subst (HasFault d (check ∷ [])) (sym c.fault.ensures)
    (fault_here d check []
    (λ new. new (subst (Contains old) same (known old c.add.new.self c.as_str.result.now c.in_ok-add.field-0 c.if-not-branch.true c.in_ok-add.ensures.added))))
