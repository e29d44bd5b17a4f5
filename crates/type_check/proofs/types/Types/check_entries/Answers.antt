use Rattle.std.proofs.Common.{◌≡◌, ◌∙◌, All, rules, sym, ap, subst, filter, take}
use Rattle.type_check.specs.Types.{is_entry, names_of}
use Rattle.type_check.specs.Checks.{Passes}
use Rattle.type_check.specs.Rules.{type_checks, checks_of_each}
use Rattle.type_check.specs.Tables.{HasFault}
use Rattle.type_check.specs.Parts.{types_rules}
use Rattle.type_check.proofs.FirstFaults.{fault_passes}
use Rattle.type_check.specs.Chains.{AreReturning, type_parents}
use Rattle.type_check.proofs.TypeLaws.{all_within, returning_of}
use Rattle.type_check.proofs.EntryLaws.{names_more, passed_more, fault_more, entries_same}
use Rattle.type_check.proofs.types.Types.check_entries.Goals as goal
use Rattle.type_check.proofs.types.Types.check_entries.Goals.{then-is_entry+in_ok-check_entry, else-is_entry}

pub returning-requires-clause-within : goal.returning-requires-clause-within
returning-requires-clause-within c =
    all_within c.args.self.now c.as_slice.result.now (c.as_slice.ensures.value ∙ c.self.invariant.are_parents ∙ ap type_parents c.self.view_is)

pub check_entry-requires : goal.check_entry-requires
check_entry-requires c =
    let d = c.args.self.now in
    let are = c.as_slice.ensures.value ∙ c.self.invariant.are_parents ∙ ap type_parents c.self.view_is in
    subst (AreReturning (type_parents d)) (sym c.deref.ensures.value) (returning_of d c.as_slice.result.now are c.in_ok-returning.returning.items c.in_ok-returning.ensures)

pub returns-in_err-check_entry-clause-fault : goal.returns-in_err-check_entry-clause-fault
unfolding types_rules
returns-in_err-check_entry-clause-fault c =
    let d = c.args.self.now in
    let items = c.deref-n-items.result.now in
    let types : items ≡ d.types = search rules in
    let fault = c.in_err-check_entry.field-0.0 in
    let here = c.in_err-check_entry.ensures.fault (filter is_entry (take c.loop-n.n-index items)) c.loop-n.invariant.0 in
    let all = fault_more d items c.loop-n.n-index c.n-item.result c.loop-n-test.true c.n-item.is (sym c.if-is_entry.ensures) fault c.loop-n.invariant.1 here in
    fault_passes d (types_rules d) c.from_residual-in_err-check_entry.result fault c.from_residual-in_err-check_entry.ensures.1
    (subst (λ xs. HasFault d (checks_of_each type_checks (filter is_entry xs)) fault) types all)

pub loop-n-preserved : goal.loop-n-preserved
loop-n-preserved c =
    let d = c.args.self.now in
    let items = c.deref-n-items.result.now in
    let front = filter is_entry (take c.loop-n.n-index items) in
    elim c.if-is_entry.branch [
      | then-is_entry+in_ok-check_entry w ↦ (
        w.seen-is ∙ names_more d items c.loop-n.n-index c.n-item.result c.loop-n-test.true c.n-item.is (sym w.if-is_entry.ensures) c.loop-n.seen w.check_entry.new.seen c.loop-n.invariant.0 w.in_ok-check_entry.ensures.added,
        passed_more d items c.loop-n.n-index c.n-item.result c.loop-n-test.true c.n-item.is (sym w.if-is_entry.ensures) c.loop-n.invariant.1 (w.in_ok-check_entry.ensures.passed front c.loop-n.invariant.0),
      )
      | else-is_entry w ↦
          let same = entries_same d items c.loop-n.n-index c.n-item.result c.loop-n-test.true c.n-item.is (sym w.if-is_entry.ensures) in (
            w.seen-is ∙ c.loop-n.invariant.0 ∙ ap names_of (sym same),
            subst (λ es. All (Passes d) (checks_of_each type_checks es)) (sym same) c.loop-n.invariant.1,
          )
    ]
