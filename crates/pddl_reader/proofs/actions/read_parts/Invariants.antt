use Rattle.std.proofs.Common.{length}
use Rattle.pddl_reader.specs.Items.{AreItemsOver, forms_at}
use Rattle.pddl_reader.proofs.PartLemmas.{ReadsParts}
use Rattle.pddl_reader.proofs.actions.read_parts.Given as goal

abbrev pub invariant-loop-rest : goal.invariant-loop-rest
invariant-loop-rest l = record {
  over : AreItemsOver l.text l.rest;
  reads : ReadsParts l.at (forms_at l.text l.items) l.parts (forms_at l.text l.rest);
}

abbrev pub decreases-loop-rest : goal.decreases-loop-rest
decreases-loop-rest l = length l.rest
