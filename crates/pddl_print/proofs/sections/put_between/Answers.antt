use Rattle.pddl_print.proofs.Writing.{more, last}
use Rattle.pddl_print.proofs.sections.put_between.Goals as goal

pub returns : goal.returns
returns c =
    let old = c.args.out.now.items in
    last c.extend_from_slice-2.result old _ _ _ _ (more old _ _ _ _ c.in_ok-extend_from_slice.ensures.items c.in_ok-put_name.ensures) c.extend_from_slice-2.ensures.items
