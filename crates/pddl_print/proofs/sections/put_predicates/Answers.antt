use Rattle.std.proofs.Common.{◌≡◌, ◌++◌, codes, sym, ◌∙◌, subst}
use Rattle.std.specs.Prelude.{OnOk}
use Rattle.pddl_print.specs.Canonical.{predicate_text}
use Rattle.pddl_print.proofs.Writing.{more, last, section_line}
use Rattle.pddl_print.proofs.sections.put_predicates.Goals as goal

pub returns : goal.returns
returns c =
    let old = c.args.out.now.items in
    let items = more old _ _ _ _ c.in_ok-extend_from_slice.ensures.items c.in_ok-put_spaced_predicates.ensures in
    subst (λ text. OnOk c.extend_from_slice-2.result (c.extend_from_slice-2.new.self.items ≡ old ++ text))
    (sym (section_line predicate_text (codes ":predicates") c.args.predicates.now (sym c.is_empty.ensures ∙ c.if-is_empty.false)))
    (last c.extend_from_slice-2.result old _ _ _ _ items c.extend_from_slice-2.ensures.items)
