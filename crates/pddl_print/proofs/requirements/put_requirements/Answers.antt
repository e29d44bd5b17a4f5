use Rattle.std.proofs.Common.{◌≡◌, List, [], ◌++◌, codes, refl, subst}
use Rattle.std.specs.Prelude.{OnOk, if◌then◌else◌}
use Rattle.pddl_reader.specs.Values.{PlainSchema}
use Rattle.pddl_print.specs.Canonical.{has_precondition, is_negated_atom, is_of_equality}
use Rattle.pddl_print.proofs.Writing.{more_of, last, requirements_line}
use Rattle.pddl_print.proofs.requirements.put_requirements.Goals as goal

pub returns : goal.returns
returns c =
    let old = c.args.out.now.items in
    let actions : List PlainSchema = c.args.actions.now in
    let negated = more_of (λ asked. if asked then codes " :negative-preconditions" else []) (has_precondition is_negated_atom) old _ _ _ _ actions actions c.in_ok-extend_from_slice.ensures.items c.in_ok-put_where.ensures c.asks_negated_atom.ensures refl in
    let equal = more_of (λ asked. if asked then codes " :equality" else []) (has_precondition is_of_equality) old _ _ _ _ actions actions negated c.in_ok-put_where-2.ensures c.asks_equality.ensures refl in
    subst (λ text. OnOk c.extend_from_slice-2.result (c.extend_from_slice-2.new.self.items ≡ old ++ text))
    (requirements_line (has_precondition is_negated_atom actions) (has_precondition is_of_equality actions))
    (last c.extend_from_slice-2.result old _ _ _ _ equal c.extend_from_slice-2.ensures.items)
