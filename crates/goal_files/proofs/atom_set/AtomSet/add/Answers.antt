use Rattle.std.proofs.Common.{refl, ◌∙◌}
use mathlib.Core.Path.{ap₂}
use Rattle.goal_files.specs.LineReading.{key_atom, with_atom}
use Rattle.goal_files.proofs.AtomSets.{atom_added}
use Rattle.goal_files.proofs.atom_set.AtomSet.add.Goals as goal

pub returns : goal.returns
returns c =
    atom_added key_atom _ (λ x y. refl) c.self.inside.atoms.keys c.insert.new.self.keys (record { predicate = c.atom.inside.predicate; objects = c.atom.inside.objects }) c.in_ok-insert.ensures.keys
    ∙ ap₂ with_atom c.self.view_is c.atom.view_is
