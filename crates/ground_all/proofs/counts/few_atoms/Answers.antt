use mathlib.Core.Path.{ap₂}
use Rattle.std.proofs.Common.{sym, ◌+◌, ◌+◌, ap, ◌∙◌, arith}
use Rattle.std.specs.List.{sum}
use Rattle.ground_all.proofs.BlockLaws.{few_all}
use Rattle.ground_all.proofs.WatchedLaws.{few_watched, task_atoms_sum}
use Rattle.ground_all.proofs.counts.few_atoms.Goals as goal

pub total-requires : goal.total-requires
total-requires c = omega (arith, few_all c.args.typed.now c.requires.sound, ap sum (c.deref-2.ensures.value ∙ c.in_ok-counts.ensures))

pub total-requires-2 : goal.total-requires-2
total-requires-2 c = omega (arith, few_watched c.args.typed.now c.requires.sound, ap sum (c.deref-3.ensures.value ∙ c.in_ok-complements.ensures))

pub overflow_add-atoms : goal.overflow_add-atoms
overflow_add-atoms c =
    omega (
      arith,
      few_all c.args.typed.now c.requires.sound,
      few_watched c.args.typed.now c.requires.sound,
      c.total.ensures ∙ ap sum (c.deref-2.ensures.value ∙ c.in_ok-counts.ensures),
      c.total-2.ensures ∙ ap sum (c.deref-3.ensures.value ∙ c.in_ok-complements.ensures),
    )

pub returns-then-atoms-gt-MOST_ATOMS-clause-fault : goal.returns-then-atoms-gt-MOST_ATOMS-clause-fault
returns-then-atoms-gt-MOST_ATOMS-clause-fault c =
    let atoms = c.total.ensures ∙ ap sum (c.deref-2.ensures.value ∙ c.in_ok-counts.ensures) in
    let complements = c.total-2.ensures ∙ ap sum (c.deref-3.ensures.value ∙ c.in_ok-complements.ensures) in
    (ap₂ ◌+◌ atoms complements ∙ sym (task_atoms_sum c.args.typed.now), c.if-atoms-gt-MOST_ATOMS.true)

pub returns-clause-counts : goal.returns-clause-counts
returns-clause-counts c =
    record {
      counted = c.in_ok-counts.ensures;
      few = omega (
        arith,
        c.total.ensures ∙ ap sum (c.deref-2.ensures.value ∙ c.in_ok-counts.ensures),
        c.total-2.ensures ∙ ap sum (c.deref-3.ensures.value ∙ c.in_ok-complements.ensures),
        task_atoms_sum c.args.typed.now,
        c.if-atoms-gt-MOST_ATOMS.false,
      );
    }
