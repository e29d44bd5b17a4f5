use Rattle.std.proofs.Common.{true, false, length, codes, sym, ap, ◌∙◌, arith, Some}
use Rattle.std.proofs.lemmas.List.{length-append}
use Rattle.std.proofs.lemmas.Option.{slice_get_within, same_Some}
use Rattle.type_check.specs.Ground.{atom_text}
use Rattle.ground_all.specs.Grounding.{fluent_atoms, task_atom_text}
use Rattle.ground_all.specs.Found.{task_atom}
use Rattle.ground_all.proofs.grounded.Grounded.atom_name_len.Goals as goal

pub fluent_name_len-len-requires : goal.fluent_name_len-len-requires
fluent_name_len-len-requires c =
    let base = c.base_of-is_complement.ensures.base in
    slice_get_within (fluent_atoms c.args.self.now.typed) c.base_of-is_complement.result.0.0 base.atom base.there

pub returns-then-is_complement : goal.returns-then-is_complement
returns-then-is_complement c atom there =
    let t = c.args.self.now.typed in
    let base = c.base_of-is_complement.ensures.base in
    let same = same_Some (task_atom true base.atom) atom (sym (base.is ∙ ap (λ b. Some (task_atom b base.atom)) c.if-is_complement.true) ∙ there) in
    omega (arith, c.fluent_name_len-len.ensures.text base.atom base.there, length-append (atom_text t base.atom) (codes ")"), ap (λ x. length (task_atom_text t x)) same)

pub returns-else-is_complement : goal.returns-else-is_complement
returns-else-is_complement c atom there =
    let t = c.args.self.now.typed in
    let base = c.base_of-is_complement.ensures.base in
    let same = same_Some (task_atom false base.atom) atom (sym (base.is ∙ ap (λ b. Some (task_atom b base.atom)) c.if-is_complement.false) ∙ there) in
    c.fluent_name_len-len.ensures.text base.atom base.there ∙ ap (λ x. length (task_atom_text t x)) same
