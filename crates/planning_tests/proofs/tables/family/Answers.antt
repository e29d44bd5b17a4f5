-- The atoms of each set are those of one that was pushed.
use Rattle.std.proofs.Common.{Vec, Global}
use Rattle.std.proofs.lemmas.List.Elements.{All-map}
use Rattle.grd_base.specs.declared.ids.AtomId.{AtomId}
use Rattle.strips_model.specs.Values.{AreAtoms}
use Rattle.planning_tests.proofs.tables.family.Goals as goal

pub returns : goal.returns
returns c = All-map (AreAtoms c.args.below) (λ (s : Vec AtomId Global). s.items) c.loop-set.family.items c.loop-set.invariant
