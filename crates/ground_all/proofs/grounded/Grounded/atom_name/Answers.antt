use Rattle.std.proofs.Common.{true, false, ap, ◌∙◌, Some}
use Rattle.ground_all.specs.Grounding.{task_atom_text}
use Rattle.ground_all.specs.Found.{task_atom}
use Rattle.ground_all.proofs.ComplementNames.{task_text_at, written_within, written_front, written_rest}
use Rattle.ground_all.proofs.grounded.Grounded.atom_name.Goals as goal

pub write_complement-requires : goal.write_complement-requires
write_complement-requires c =
    let base = c.base_of-is_complement.ensures.base in
    (base.atom, base.there, c.requires.room (task_atom true base.atom) (base.is ∙ ap (λ b. Some (task_atom b base.atom)) c.if-is_complement.true))

pub write_fluent-requires : goal.write_fluent-requires
write_fluent-requires c =
    let base = c.base_of-is_complement.ensures.base in
    (base.atom, base.there, c.requires.room (task_atom false base.atom) (base.is ∙ ap (λ b. Some (task_atom b base.atom)) c.if-is_complement.false))

pub returns-then-is_complement-clause-length : goal.returns-then-is_complement-clause-length
returns-then-is_complement-clause-length c =
    let base = c.base_of-is_complement.ensures.base in
    written_within (task_atom_text c.args.self.now.typed (task_atom true base.atom)) c.args.into.now c.write_complement.new.into c.write_complement.result (c.write_complement.ensures base.atom base.there)

pub returns-then-is_complement-clause-text : goal.returns-then-is_complement-clause-text
returns-then-is_complement-clause-text c =
    let t = c.args.self.now.typed in
    let base = c.base_of-is_complement.ensures.base in
    task_text_at t c.args.a.0 (task_atom true base.atom) _ c.base_of-is_complement.ensures.sound (base.is ∙ ap (λ b. Some (task_atom b base.atom)) c.if-is_complement.true)
    (written_front (task_atom_text c.args.self.now.typed (task_atom true base.atom)) c.args.into.now c.write_complement.new.into c.write_complement.result (c.write_complement.ensures base.atom base.there))

pub returns-then-is_complement-clause-rest : goal.returns-then-is_complement-clause-rest
returns-then-is_complement-clause-rest c =
    let base = c.base_of-is_complement.ensures.base in
    written_rest (task_atom_text c.args.self.now.typed (task_atom true base.atom)) c.args.into.now c.write_complement.new.into c.write_complement.result (c.write_complement.ensures base.atom base.there)

pub returns-else-is_complement-clause-length : goal.returns-else-is_complement-clause-length
returns-else-is_complement-clause-length c =
    let base = c.base_of-is_complement.ensures.base in
    written_within (task_atom_text c.args.self.now.typed (task_atom false base.atom)) c.args.into.now c.write_fluent.new.into c.write_fluent.result (c.write_fluent.ensures base.atom base.there)

pub returns-else-is_complement-clause-text : goal.returns-else-is_complement-clause-text
returns-else-is_complement-clause-text c =
    let t = c.args.self.now.typed in
    let base = c.base_of-is_complement.ensures.base in
    task_text_at t c.args.a.0 (task_atom false base.atom) _ c.base_of-is_complement.ensures.sound (base.is ∙ ap (λ b. Some (task_atom b base.atom)) c.if-is_complement.false)
    (written_front (task_atom_text c.args.self.now.typed (task_atom false base.atom)) c.args.into.now c.write_fluent.new.into c.write_fluent.result (c.write_fluent.ensures base.atom base.there))

pub returns-else-is_complement-clause-rest : goal.returns-else-is_complement-clause-rest
returns-else-is_complement-clause-rest c =
    let base = c.base_of-is_complement.ensures.base in
    written_rest (task_atom_text c.args.self.now.typed (task_atom false base.atom)) c.args.into.now c.write_fluent.new.into c.write_fluent.result (c.write_fluent.ensures base.atom base.there)
