use Rattle.std.proofs.Common.{◌≡◌, ◌∷◌, Ok, Err, IfErr, inr, sym, ap, ◌∙◌, subst}
use Rattle.std.specs.Prelude.{IfOk}
use Rattle.pddl_lexer.specs.declared.trees.TreeList.{TreeList}
use Rattle.pddl_reader.specs.Forms.{Leaf, word_of}
use Rattle.pddl_reader.specs.Items.{IsTokenOver, forms_at, IsFaultOf}
use Rattle.pddl_reader.specs.declared.faults.PddlFault.TheVariants.{Shape}
use Rattle.pddl_reader.specs.Reading.{atom_in}
use Rattle.pddl_reader.proofs.ListLemmas.{first_item, first_word, word_forms, list_forms, no_forms}
use Rattle.pddl_reader.proofs.conditions.atom_in.Goals as goal

pub atom_by-requires-clause-head_over : goal.atom_by-requires-clause-head_over
atom_by-requires-clause-head_over c =
    let first = first_item c.args.items.now c.in-Some-Word-default.rest.now c.in-Some-Word-default.field-0-0.now c.in-Some-Word-default.ensures.cases.0 in
    let word = first_word c.args.items.now c.in-Some-Word-default.rest.now c.in-Some-Word-default.field-0-0.now c.in-Some-Word-default.head first c.in-Some-Word-default.field-0-0-is in
    subst (IsTokenOver c.args.text.now) (sym c.in-Some-Word-default.head-is) (word.over_word c.args.text.now c.requires)

pub atom_by-requires-clause-items_over : goal.atom_by-requires-clause-items_over
atom_by-requires-clause-items_over c =
    (first_item c.args.items.now c.in-Some-Word-default.rest.now c.in-Some-Word-default.field-0-0.now c.in-Some-Word-default.ensures.cases.0).over_rest c.args.text.now c.requires

pub returns-in-None-clause-fault : goal.returns-in-None-clause-fault
returns-in-None-clause-fault c = inr (ap (atom_in c.args.part c.args.at) (no_forms c.args.text.now c.args.items.now c.in-None.ensures.cases))

pub returns-in-Some-List-default-clause-fault : goal.returns-in-Some-List-default-clause-fault
returns-in-Some-List-default-clause-fault c =
    inr (ap (atom_in c.args.part c.args.at)
    (list_forms c.args.text.now c.args.items.now c.in-Some-List-default.field-0-1.now c.in-Some-List-default.field-0-0.now c.in-Some-List-default.list c.in-Some-List-default.ensures.cases.0 c.in-Some-List-default.field-0-0-is)
    ∙ ap (λ (l : TreeList). Err (Shape l.at)) (sym c.in-Some-List-default.list-is))

pub returns-in-Some-Word-default-clause-read : goal.returns-in-Some-Word-default-clause-read
returns-in-Some-Word-default-clause-read c =
    let forms = word_forms c.args.text.now c.args.items.now c.in-Some-Word-default.rest.now c.in-Some-Word-default.field-0-0.now c.in-Some-Word-default.head c.in-Some-Word-default.ensures.cases.0 c.in-Some-Word-default.field-0-0-is
    ∙ ap (λ t. Leaf (word_of c.args.text.now t) ∷ forms_at c.args.text.now c.in-Some-Word-default.rest.now) (sym c.in-Some-Word-default.head-is) in
    subst (λ read. IfOk c.atom_by.result (λ l. read ≡ Ok l)) (sym (ap (atom_in c.args.part c.args.at) forms)) c.atom_by.ensures.read

pub returns-in-Some-Word-default-clause-fault : goal.returns-in-Some-Word-default-clause-fault
returns-in-Some-Word-default-clause-fault c =
    let forms = word_forms c.args.text.now c.args.items.now c.in-Some-Word-default.rest.now c.in-Some-Word-default.field-0-0.now c.in-Some-Word-default.head c.in-Some-Word-default.ensures.cases.0 c.in-Some-Word-default.field-0-0-is
    ∙ ap (λ t. Leaf (word_of c.args.text.now t) ∷ forms_at c.args.text.now c.in-Some-Word-default.rest.now) (sym c.in-Some-Word-default.head-is) in
    subst (λ read. IfErr c.atom_by.result (IsFaultOf read)) (sym (ap (atom_in c.args.part c.args.at) forms)) c.atom_by.ensures.fault
