use Rattle.std.proofs.Common.{map, codes}
use Rattle.std.specs.List.{flat_map}
use Rattle.pddl_reader.specs.Values.{PlainDomain}
use Rattle.pddl_print.specs.Canonical.{predicate_text, action_text, section_text}
use Rattle.pddl_print.proofs.Writing.{more_of, last}
use Rattle.pddl_print.proofs.sections.put_domain.Goals as goal

pub returns : goal.returns
returns c =
    let old = c.args.out.now.items in
    let same = c.domain.view_is in
    let predicates = more_of (λ ps. section_text (codes ":predicates") (map predicate_text ps)) (λ (d : PlainDomain). d.predicates) old _ _ _ _ _ _ c.in_ok-put_domain_front.ensures c.in_ok-put_predicates.ensures c.deref.ensures.value same in
    let actions = more_of (flat_map action_text) (λ (d : PlainDomain). d.actions) old _ _ _ _ _ _ predicates c.in_ok-put_actions.ensures c.deref-2.ensures.value same in
    last c.extend_from_slice.result old _ _ _ _ actions c.extend_from_slice.ensures.items
