use Rattle.std.proofs.Common.{◌≡◌, Ok, IfErr, refl, sym, subst}
use Rattle.std.specs.Prelude.{IfOk}
use Rattle.pddl_reader.specs.Items.{IsFaultOf}
use Rattle.pddl_reader.specs.Reading.{head_in, head_at}
use Rattle.pddl_reader.proofs.ItemLemmas.{list_over, at_list}
use Rattle.pddl_reader.proofs.document.head.Goals as goal

pub head_in-requires : goal.head_in-requires
head_in-requires c = list_over c.args.text.now c.args.item.now c.in-List.list c.deref.result.now c.in-List.is c.deref.ensures.value c.requires

pub returns-in-List-clause-read : goal.returns-in-List-clause-read
returns-in-List-clause-read c =
    let document = c.args.document in
    let same = at_list c.args.text.now c.args.item.now c.in-List.list c.deref.result.now c.in-List.is c.deref.ensures.value (head_at document) (head_in document) (λ at forms. refl) in
    subst (λ read. IfOk c.head_in.result (λ name. read ≡ Ok name)) (sym same) c.head_in.ensures.read

pub returns-in-List-clause-fault : goal.returns-in-List-clause-fault
returns-in-List-clause-fault c =
    let document = c.args.document in
    let same = at_list c.args.text.now c.args.item.now c.in-List.list c.deref.result.now c.in-List.is c.deref.ensures.value (head_at document) (head_in document) (λ at forms. refl) in
    subst (λ read. IfErr c.head_in.result (IsFaultOf read)) (sym same) c.head_in.ensures.fault
