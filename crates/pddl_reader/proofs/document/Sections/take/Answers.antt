use Rattle.std.proofs.Common.{◌≡◌, Ok, IfErr, refl, sym, subst}
use Rattle.std.specs.Prelude.{OnOk}
use Rattle.pddl_reader.specs.Items.{IsFaultOf}
use Rattle.pddl_reader.specs.Kept.{AddsSection}
use Rattle.pddl_reader.specs.Sections.{SectionValue}
use Rattle.pddl_reader.specs.Reading.{section_in, section_at}
use Rattle.pddl_reader.proofs.ItemLemmas.{list_over, at_list}
use Rattle.pddl_reader.proofs.document.Sections.take.Goals as goal

pub take_list-requires : goal.take_list-requires
take_list-requires c = list_over c.args.text.now c.args.item.now c.in-List.list c.deref.result.now c.in-List.is c.deref.ensures.value c.requires

pub returns-in-List-clause-read : goal.returns-in-List-clause-read
returns-in-List-clause-read c =
    let document = c.args.document in
    let given = c.args.self.now.given.items in
    let same = at_list c.args.text.now c.args.item.now c.in-List.list c.deref.result.now c.in-List.is c.deref.ensures.value (section_at document given) (section_in document given) (λ at forms. refl) in
    subst (λ read. OnOk c.take_list.result ((s : SectionValue) × (read ≡ Ok s) × AddsSection c.args.self.now s c.take_list.new.self)) (sym same) c.take_list.ensures.read

pub returns-in-List-clause-fault : goal.returns-in-List-clause-fault
returns-in-List-clause-fault c =
    let document = c.args.document in
    let given = c.args.self.now.given.items in
    let same = at_list c.args.text.now c.args.item.now c.in-List.list c.deref.result.now c.in-List.is c.deref.ensures.value (section_at document given) (section_in document given) (λ at forms. refl) in
    subst (λ read. IfErr c.take_list.result (IsFaultOf read)) (sym same) c.take_list.ensures.fault
