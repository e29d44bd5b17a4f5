use Rattle.std.proofs.Common.{◌++◌, ◌^◌, ◌<◌, length, sym, ap, ◌∙◌, subst, arith}
use Rattle.pddl_print.specs.Canonical.{problem_text}
use Rattle.pddl_print.specs.Spells.{SpellsProblem}
use Rattle.pddl_print.proofs.Combined.{canonical_problem}
use Rattle.pddl_print.proofs.print.print_problem.Goals as goal

pub returns-clause-spells : goal.returns-clause-spells
returns-clause-spells c =
    let problem = c.args.problem.now in
    let out = c.put_problem.new.out in
    let is = c.in_ok-put_problem.ensures ∙ ap (λ bytes. bytes ++ problem_text problem) c.new-text.ensures.items in
    let small : length out.items < 2 ^ 63 = omega (arith, out.ok.0, out.ok.1, out.small) in
    subst (λ text. SpellsProblem text problem) (sym is)
    (canonical_problem c.requires.text problem c.requires.spells (subst (λ bytes. length bytes < 2 ^ 63) is small))
