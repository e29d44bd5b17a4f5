use Rattle.std.proofs.Common.{map, codes, ◌++◌, refl}
use Rattle.pddl_reader.specs.Forms.{Word}
use Rattle.pddl_reader.specs.Values.{PlainSchema}
use Rattle.pddl_print.specs.Canonical.{name_text, separated, typed_text}
use Rattle.pddl_print.proofs.Writing.{first_of, last_of}
use Rattle.pddl_print.proofs.sections.put_action_front.Goals as goal

pub returns : goal.returns
returns c =
    let old = c.args.out.now.items in
    let same = c.action.view_is in
    let name = first_of (λ (n : Word). codes "(:action " ++ name_text n ++ codes "\n:parameters (") (λ (a : PlainSchema). a.name) old _ _ _ _ c.in_ok-put_between.ensures refl same in
    last_of c.put_separated_typed.result (λ ps. separated (map typed_text ps)) (λ (a : PlainSchema). a.parameters) old _ _ _ _ _ _ name c.put_separated_typed.ensures c.deref.ensures.value same
