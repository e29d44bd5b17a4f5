use Rattle.std.proofs.Common.{◌≡◌, Ok, IfErr, refl, sym, subst}
use Rattle.std.specs.Prelude.{IfOk}
use Rattle.pddl_reader.specs.Items.{IsFaultOf}
use Rattle.pddl_reader.specs.Reading.{atom_in, atom_at}
use Rattle.pddl_reader.proofs.ItemLemmas.{list_over, at_list}
use Rattle.pddl_reader.proofs.conditions.atom.Goals as goal

pub atom_in-requires : goal.atom_in-requires
atom_in-requires c = list_over c.args.text.now c.args.item.now c.in-List.list c.deref.result.now c.in-List.is c.deref.ensures.value c.requires

pub returns-in-List-clause-read : goal.returns-in-List-clause-read
returns-in-List-clause-read c =
    let same = at_list c.args.text.now c.args.item.now c.in-List.list c.deref.result.now c.in-List.is c.deref.ensures.value (atom_at c.args.part) (atom_in c.args.part) (λ at forms. refl) in
    subst (λ read. IfOk c.atom_in.result (λ l. read ≡ Ok l)) (sym same) c.atom_in.ensures.read

pub returns-in-List-clause-fault : goal.returns-in-List-clause-fault
returns-in-List-clause-fault c =
    let same = at_list c.args.text.now c.args.item.now c.in-List.list c.deref.result.now c.in-List.is c.deref.ensures.value (atom_at c.args.part) (atom_in c.args.part) (λ at forms. refl) in
    subst (λ read. IfErr c.atom_in.result (IsFaultOf read)) (sym same) c.atom_in.ensures.fault
