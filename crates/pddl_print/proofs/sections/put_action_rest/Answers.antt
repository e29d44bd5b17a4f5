use Rattle.std.proofs.Common.{codes, ◌++◌}
use Rattle.pddl_reader.specs.Values.{PlainSchema}
use Rattle.pddl_print.specs.Canonical.{condition_text}
use Rattle.pddl_print.proofs.Writing.{first_of, more_of, last}
use Rattle.pddl_print.proofs.sections.put_action_rest.Goals as goal

pub returns : goal.returns
returns c =
    let old = c.args.out.now.items in
    let same = c.action.view_is in
    let pre = first_of (λ ls. codes ")\n:precondition " ++ condition_text ls) (λ (a : PlainSchema). a.pre) old _ _ _ _ c.in_ok-put_part.ensures c.deref.ensures.value same in
    let effect = more_of (λ ls. codes "\n:effect " ++ condition_text ls) (λ (a : PlainSchema). a.effect) old _ _ _ _ _ _ pre c.in_ok-put_part-2.ensures c.deref-2.ensures.value same in
    last c.extend_from_slice.result old _ _ _ _ effect c.extend_from_slice.ensures.items
