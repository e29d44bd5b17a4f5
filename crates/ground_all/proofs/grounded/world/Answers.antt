use Rattle.std.proofs.Common.{arith, ap, ◌∙◌}
use Rattle.ground_all.specs.Grounding.{ground_task}
use Rattle.ground_all.specs.Found.{starts_of, IsCounted}
use Rattle.ground_all.proofs.GroundCounts.{atoms_counted, few_atoms_sum, few_actions_sum}
use Rattle.ground_all.proofs.SoundLaws.{sound}
use Rattle.ground_all.proofs.grounded.world.Goals as goal

pub total-fluents-requires : goal.total-fluents-requires
total-fluents-requires c = omega (arith, few_atoms_sum c.args.typed.now c.args.counts.atoms.items c.deref.result.now c.deref.ensures.value c.requires.counts.few_atoms)

pub overflow_cast-fluents : goal.overflow_cast-fluents
overflow_cast-fluents c =
    omega (arith, c.total-fluents.ensures, few_atoms_sum c.args.typed.now c.args.counts.atoms.items c.deref.result.now c.deref.ensures.value c.requires.counts.few_atoms)

pub starts-requires : goal.starts-requires
starts-requires c = omega (arith, few_atoms_sum c.args.typed.now c.args.counts.atoms.items c.deref-2.result.now c.deref-2.ensures.value c.requires.counts.few_atoms)

pub starts-requires-2 : goal.starts-requires-2
starts-requires-2 c = omega (arith, few_actions_sum c.args.typed.now c.args.counts.actions.items c.deref-3.result.now c.deref-3.ensures.value c.requires.counts.few_actions)

pub watched_atoms-requires : goal.watched_atoms-requires
watched_atoms-requires c =
    let t = c.args.typed.now in
    let counted : IsCounted t c.deref-4.result.now c.deref-5.result.now c.total-fluents.result = record {
      marked = c.deref-4.ensures.value ∙ c.requires.counts.watched_marked;
      start = c.deref-5.ensures.value ∙ c.in_ok-atom_starts.ensures ∙ ap (starts_of 0) (c.deref-2.ensures.value ∙ c.requires.counts.few_atoms.counted);
      counted = atoms_counted t c.total-fluents.result c.deref.result.now c.args.counts.atoms.items c.total-fluents.ensures c.deref.ensures.value c.requires.counts.few_atoms.counted;
    } in
    (t, counted)

pub starts-requires-3 : goal.starts-requires-3
starts-requires-3 c = omega (arith, few_atoms_sum c.args.typed.now c.args.counts.atoms.items c.deref-6.result.now c.deref-6.ensures.value c.requires.counts.few_atoms)

pub watched_atoms-requires-2 : goal.watched_atoms-requires-2
watched_atoms-requires-2 c =
    let t = c.args.typed.now in
    let counted : IsCounted t c.deref-7.result.now c.deref-8.result.now c.total-fluents.result = record {
      marked = c.deref-7.ensures.value ∙ c.requires.counts.watched_marked;
      start = c.deref-8.ensures.value ∙ c.in_ok-atom_starts.ensures ∙ ap (starts_of 0) (c.deref-2.ensures.value ∙ c.requires.counts.few_atoms.counted);
      counted = atoms_counted t c.total-fluents.result c.deref.result.now c.args.counts.atoms.items c.total-fluents.ensures c.deref.ensures.value c.requires.counts.few_atoms.counted;
    } in
    (t, counted)

pub new-requires-clause-sound : goal.new-requires-clause-sound
new-requires-clause-sound c = sound c.args.typed.now c.requires.typed

pub new-requires-clause-fluents : goal.new-requires-clause-fluents
new-requires-clause-fluents c = atoms_counted c.args.typed.now c.total-fluents.result c.deref.result.now c.args.counts.atoms.items c.total-fluents.ensures c.deref.ensures.value c.requires.counts.few_atoms.counted

pub new-requires-clause-watched : goal.new-requires-clause-watched
new-requires-clause-watched c =
    let t = c.args.typed.now in
    let counted : IsCounted t c.deref-7.result.now c.deref-8.result.now c.total-fluents.result = record {
      marked = c.deref-7.ensures.value ∙ c.requires.counts.watched_marked;
      start = c.deref-8.ensures.value ∙ c.in_ok-atom_starts.ensures ∙ ap (starts_of 0) (c.deref-2.ensures.value ∙ c.requires.counts.few_atoms.counted);
      counted = atoms_counted t c.total-fluents.result c.deref.result.now c.args.counts.atoms.items c.total-fluents.ensures c.deref.ensures.value c.requires.counts.few_atoms.counted;
    } in
    c.in_ok-watched_atoms.ensures t counted

pub invariant_of-result : goal.invariant_of-result
invariant_of-result c =
    let t = c.args.typed.now in
    let counted : IsCounted t c.deref-4.result.now c.deref-5.result.now c.total-fluents.result = record {
      marked = c.deref-4.ensures.value ∙ c.requires.counts.watched_marked;
      start = c.deref-5.ensures.value ∙ c.in_ok-atom_starts.ensures ∙ ap (starts_of 0) (c.deref-2.ensures.value ∙ c.requires.counts.few_atoms.counted);
      counted = atoms_counted t c.total-fluents.result c.deref.result.now c.args.counts.atoms.items c.total-fluents.ensures c.deref.ensures.value c.requires.counts.few_atoms.counted;
    } in
    record {
      typed = c.requires.typed;
      is_task = c.in_ok-task.ensures ∙ ap (λ t. ground_task t c.args.goals.now) c.in_ok-index.ensures;
      counted = counted.counted;
      listed = c.in_ok-complemented.ensures t counted;
      atoms = c.in_ok-atom_starts.ensures ∙ ap (starts_of 0) (c.deref-2.ensures.value ∙ c.requires.counts.few_atoms.counted);
      actions = c.in_ok-action_starts.ensures ∙ ap (starts_of 0) (c.deref-3.ensures.value ∙ c.requires.counts.few_actions.counted);
      few_atoms = c.requires.counts.few_atoms.few;
      few_actions = c.requires.counts.few_actions.few;
    }
