use Rattle.std.proofs.Common.{◌≡◌, [], Ok, IfErr, ap, refl, sym, subst}
use Rattle.std.specs.Prelude.{IfOk}
use Rattle.std.proofs.lemmas.Result.{IfOk-weaker, IfErr-weaker}
use Rattle.pddl_reader.specs.declared.kinds.ActionPart.TheVariants.{Parameters}
use Rattle.pddl_reader.specs.declared.kinds.Listed.TheVariants.{Variables}
use Rattle.pddl_reader.specs.Items.{IsFaultOf}
use Rattle.pddl_reader.specs.Reading.{and_then, typed_from, part_at}
use Rattle.pddl_reader.specs.Sections.{HasParameters}
use Rattle.pddl_reader.proofs.ItemLemmas.{list_over, at_list}
use Rattle.pddl_reader.proofs.ListLemmas.{fault_first}
use Rattle.pddl_reader.proofs.actions.parameters.Goals as goal

pub typed_list-requires : goal.typed_list-requires
typed_list-requires c = list_over c.args.text.now c.args.item.now c.in-List.list c.deref.result.now c.in-List.is c.deref.ensures.value c.requires

pub returns-in-List-clause-read : goal.returns-in-List-clause-read
returns-in-List-clause-read c =
    let same = at_list c.args.text.now c.args.item.now c.in-List.list c.deref.result.now c.in-List.is c.deref.ensures.value (part_at Parameters)
    (λ at forms. and_then (typed_from Variables at [] forms) (λ v. Ok (HasParameters v))) (λ at forms. refl) in
    subst (λ read. IfOk c.typed_list.result (λ v. read ≡ Ok (HasParameters v.items))) (sym same)
    (IfOk-weaker c.typed_list.result _ _ (λ v e. ap (λ r. and_then r (λ v. Ok (HasParameters v))) e) c.typed_list.ensures.read)

pub returns-in-List-clause-fault : goal.returns-in-List-clause-fault
returns-in-List-clause-fault c =
    let same = at_list c.args.text.now c.args.item.now c.in-List.list c.deref.result.now c.in-List.is c.deref.ensures.value (part_at Parameters)
    (λ at forms. and_then (typed_from Variables at [] forms) (λ v. Ok (HasParameters v))) (λ at forms. refl) in
    subst (λ read. IfErr c.typed_list.result (IsFaultOf read)) (sym same)
    (IfErr-weaker c.typed_list.result _ _ (λ f e. fault_first _ (λ v. Ok (HasParameters v)) f e) c.typed_list.ensures.fault)
