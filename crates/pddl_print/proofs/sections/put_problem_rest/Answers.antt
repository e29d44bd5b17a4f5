use Rattle.std.proofs.Common.{map}
use Rattle.pddl_reader.specs.Values.{PlainProblem}
use Rattle.pddl_print.specs.Canonical.{literal_text, spaced}
use Rattle.pddl_print.proofs.Writing.{more_of, last}
use Rattle.pddl_print.proofs.sections.put_problem_rest.Goals as goal

pub returns : goal.returns
returns c =
    let old = c.args.out.now.items in
    let init = more_of (λ ls. spaced (map literal_text ls)) (λ (p : PlainProblem). p.init) old _ _ _ _ _ _ c.in_ok-extend_from_slice.ensures.items c.in_ok-put_spaced_literals.ensures c.deref.ensures.value c.problem.view_is in
    last c.extend_from_slice-2.result old _ _ _ _ init c.extend_from_slice-2.ensures.items
