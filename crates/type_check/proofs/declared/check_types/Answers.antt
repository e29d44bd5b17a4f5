use Rattle.std.proofs.Common.{◌≡◌, true, false, ℕ, List, Option, Some, None, map, sym, ap, ◌∙◌, subst, arith}
use Rattle.std.specs.Prelude.{All, Contains, IfSome, IfNone}
use Rattle.std.specs.Option.{is_some}
use Rattle.std.proofs.lemmas.Bool.{true≢false}
use Rattle.std.proofs.lemmas.List.{take_all}
use Rattle.pddl_reader.specs.Forms.{Word}
use Rattle.type_check.specs.declared.faults.TypeKind.TheVariants.{UnknownType}
use Rattle.type_check.specs.Types.{type_names}
use Rattle.type_check.specs.Checks.{Check, OneOf, Passes, fault_at}
use Rattle.type_check.specs.Rules.{are_types}
use Rattle.type_check.specs.Tables.{HasFault}
use Rattle.type_check.proofs.FirstFaults.{map_passed, map_fault}
use Rattle.type_check.proofs.declared.check_types.Goals as goal

known : {T : Type 0} (names : List (List ℕ)) (name text : List ℕ) (o : Option T) → name ≡ text → is_some o ≡ true → IfSome o (λ _. Contains names name) → Contains names text
known names name text (Some x) same holds h = subst (Contains names) same h
known names name text None same holds h = absurd (true≢false (sym holds))

unknown : {T : Type 0} (names : List (List ℕ)) (name text : List ℕ) (o : Option T) → name ≡ text → is_some o ≡ false → IfNone o (Contains names name → ⊥) → Contains names text → ⊥
unknown names name text (Some x) same fails h is = true≢false fails
unknown names name text None same fails h is = h (subst (Contains names) (sym same) is)

pub returns-then-is_none-clause-fault : goal.returns-then-is_none-clause-fault
returns-then-is_none-clause-fault c =
    let d = c.args.types.now in
    let check : Word → Check = λ t. record { need = OneOf (type_names d) t.text; fault = fault_at UnknownType c.args.file t.at } in
    subst (HasFault d (map check c.args.names.now)) (sym c.fault.ensures)
    (map_fault check d c.args.names.now c.loop-name.name-index c.name-item.result (omega arith) c.name-item.is c.loop-name.invariant
    (unknown (type_names d) c.as_str.result.now c.name-item.result.text c.number_of.result (c.as_str.ensures.value ∙ ap (λ (w : Word). w.text) c.name.view_is) c.if-is_none.ensures c.number_of.ensures.none))

pub loop-name-preserved : goal.loop-name-preserved
loop-name-preserved c =
    let d = c.args.types.now in
    let check : Word → Check = λ t. record { need = OneOf (type_names d) t.text; fault = fault_at UnknownType c.args.file t.at } in
    map_passed check d c.args.names.now c.loop-name.name-index c.name-item.result (omega arith) c.name-item.is c.loop-name.invariant
    (known (type_names d) c.as_str.result.now c.name-item.result.text c.number_of.result (c.as_str.ensures.value ∙ ap (λ (w : Word). w.text) c.name.view_is) c.if-is_none.ensures c.number_of.ensures.found)

pub returns-clause-passed : goal.returns-clause-passed
returns-clause-passed c =
    let d = c.args.types.now in
    subst (λ names. All (Passes d) (are_types c.args.file d names)) (take_all c.loop-name.name-index c.args.names.now (omega arith)) c.loop-name.invariant
