use Rattle.std.proofs.Common.{◌≡◌, Ok, IfErr, refl, sym, subst}
use Rattle.std.specs.Prelude.{IfOk}
use Rattle.pddl_reader.specs.Items.{IsFaultOf}
use Rattle.pddl_reader.specs.Reading.{predicate_in, predicate_at}
use Rattle.pddl_reader.proofs.ItemLemmas.{list_over, at_list}
use Rattle.pddl_reader.proofs.sections.predicate.Goals as goal

pub predicate_in-requires : goal.predicate_in-requires
predicate_in-requires c = list_over c.args.text.now c.args.item.now c.in-List.list c.deref.result.now c.in-List.is c.deref.ensures.value c.requires

pub returns-in-List-clause-read : goal.returns-in-List-clause-read
returns-in-List-clause-read c =
    let same = at_list c.args.text.now c.args.item.now c.in-List.list c.deref.result.now c.in-List.is c.deref.ensures.value predicate_at predicate_in (λ at forms. refl) in
    subst (λ read. IfOk c.predicate_in.result (λ p. read ≡ Ok p)) (sym same) c.predicate_in.ensures.read

pub returns-in-List-clause-fault : goal.returns-in-List-clause-fault
returns-in-List-clause-fault c =
    let same = at_list c.args.text.now c.args.item.now c.in-List.list c.deref.result.now c.in-List.is c.deref.ensures.value predicate_at predicate_in (λ at forms. refl) in
    subst (λ read. IfErr c.predicate_in.result (IsFaultOf read)) (sym same) c.predicate_in.ensures.fault
