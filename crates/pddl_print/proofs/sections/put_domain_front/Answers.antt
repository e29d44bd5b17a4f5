use Rattle.std.proofs.Common.{map, codes, ◌++◌, refl}
use Rattle.pddl_reader.specs.Forms.{Word}
use Rattle.pddl_reader.specs.Values.{PlainDomain}
use Rattle.pddl_print.specs.Canonical.{name_text, typed_text, section_text, requirements}
use Rattle.pddl_print.proofs.Writing.{first_of, more_of, last_of}
use Rattle.pddl_print.proofs.sections.put_domain_front.Goals as goal

pub returns : goal.returns
returns c =
    let old = c.args.out.now.items in
    let same = c.domain.view_is in
    let name = first_of (λ (n : Word). codes "(define (domain " ++ name_text n ++ codes ")\n") (λ (d : PlainDomain). d.name) old _ _ _ _ c.in_ok-put_between.ensures refl same in
    let required = more_of (λ actions. section_text (codes ":requirements") (requirements actions)) (λ (d : PlainDomain). d.actions) old _ _ _ _ _ _ name c.in_ok-put_requirements.ensures c.deref.ensures.value same in
    let types = more_of (λ ts. section_text (codes ":types") (map typed_text ts)) (λ (d : PlainDomain). d.types) old _ _ _ _ _ _ required c.in_ok-put_typed_section.ensures c.deref-2.ensures.value same in
    last_of c.put_typed_section-2.result (λ cs. section_text (codes ":constants") (map typed_text cs)) (λ (d : PlainDomain). d.constants) old _ _ _ _ _ _ types c.put_typed_section-2.ensures c.deref-3.ensures.value same
