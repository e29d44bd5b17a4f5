use Rattle.std.proofs.Common.{[], length, sym, ◌∙◌, subst}
use Rattle.pddl_lexer.proofs.Steps.{some_len, no_len}
use Rattle.pddl_reader.specs.Items.{forms_at}
use Rattle.pddl_reader.specs.Reading.{parts_from}
use Rattle.pddl_reader.proofs.ListLemmas.{no_forms}
use Rattle.pddl_reader.proofs.PartLemmas.{ReadsParts, nothing_read, one_more_read, parts_fault, parts_end}
use Rattle.pddl_reader.proofs.ReadLemmas.{fault_passes}
use Rattle.pddl_reader.proofs.actions.read_parts.Goals as goal

pub loop-rest-init : goal.loop-rest-init
loop-rest-init c = record { over = c.requires; reads = nothing_read c.args.at _ _ c.new-parts.ensures }

pub take-requires-clause-some : goal.take-requires-clause-some
take-requires-clause-some c = some_len (length c.loop-rest.rest.now) (sym c.is_empty.ensures ∙ c.loop-rest-test.true)

pub returns-in_err-rest-clause-fault : goal.returns-in_err-rest-clause-fault
returns-in_err-rest-clause-fault c =
    let forms = forms_at c.args.text.now c.args.items.now in
    let rest = forms_at c.args.text.now c.loop-rest.rest.now in
    fault_passes (parts_from c.args.at c.loop-rest.parts.given.items rest) (parts_from c.args.at [] forms) c.from_residual.result c.in_err-rest.field-0.0 c.from_residual.ensures.1 c.in_err-rest.ensures.fault
    (parts_fault c.args.at forms rest c.loop-rest.parts c.in_err-rest.field-0.0 c.loop-rest.invariant.reads)

pub loop-rest-smaller : goal.loop-rest-smaller
loop-rest-smaller c = c.in_ok-rest.ensures.shorter

pub loop-rest-preserved : goal.loop-rest-preserved
loop-rest-preserved c = record {
  over = c.in_ok-rest.ensures.over;
  reads = one_more_read c.args.at _ _ _ _ _ c.loop-rest.invariant.reads c.in_ok-rest.ensures.read;
}

pub returns-clause-read : goal.returns-clause-read
returns-clause-read c =
    let text = c.args.text.now in
    let forms = forms_at text c.args.items.now in
    let none = no_forms text c.loop-rest.rest.now (no_len (length c.loop-rest.rest.now) (sym c.is_empty.ensures ∙ c.loop-rest-test.false)) in
    parts_end c.args.at forms c.loop-rest.parts (subst (ReadsParts c.args.at forms c.loop-rest.parts) none c.loop-rest.invariant.reads)
