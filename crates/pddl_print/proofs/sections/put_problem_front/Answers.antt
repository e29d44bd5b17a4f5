use Rattle.std.proofs.Common.{map, codes, ◌++◌, refl}
use Rattle.pddl_reader.specs.Forms.{Word}
use Rattle.pddl_reader.specs.Values.{PlainProblem}
use Rattle.pddl_print.specs.Canonical.{name_text, typed_text, section_text}
use Rattle.pddl_print.proofs.Writing.{first_of, more_of, last_of}
use Rattle.pddl_print.proofs.sections.put_problem_front.Goals as goal

pub returns : goal.returns
returns c =
    let old = c.args.out.now.items in
    let same = c.problem.view_is in
    let name = first_of (λ (n : Word). codes "(define (problem " ++ name_text n ++ codes ")\n(:domain ") (λ (p : PlainProblem). p.name) old _ _ _ _ c.in_ok-put_between.ensures refl same in
    let domain = more_of (λ (n : Word). codes "" ++ name_text n ++ codes ")\n") (λ (p : PlainProblem). p.domain) old _ _ _ _ _ _ name c.in_ok-put_between-2.ensures refl same in
    last_of c.put_typed_section.result (λ os. section_text (codes ":objects") (map typed_text os)) (λ (p : PlainProblem). p.objects) old _ _ _ _ _ _ domain c.put_typed_section.ensures c.deref.ensures.value same
