use Rattle.std.proofs.Common.{length, sym, ap, ◌∙◌, subst, arith}
use Rattle.grd_base.specs.declared.ids.AtomId.{AtomId}
use Rattle.grd_base.specs.Rising.{IsRisingBy}
use Rattle.ground_all.specs.Grounding.{fluent_atoms, is_watched}
use Rattle.ground_all.proofs.AtomNumbers.{places_rise}
use Rattle.ground_all.proofs.WatchedLaws.{length-kept}
use Rattle.ground_all.proofs.atoms.Atoms.add_complements.Goals as goal

pub add_complements-requires-clause-watched : goal.add_complements-requires-clause-watched
add_complements-requires-clause-watched c =
    let t = c.self.inside.typed.now in
    subst (IsRisingBy (λ (a : AtomId). a.0)) (sym (c.deref.ensures.value ∙ c.self.invariant.listed)) (places_rise (λ a. is_watched t a.predicate) 0 (fluent_atoms t))

pub add_complements-requires-clause-few : goal.add_complements-requires-clause-few
add_complements-requires-clause-few c =
    let self = c.self.inside in
    omega (arith, ap length c.deref.ensures.value, length-kept self.typed.now self.fluents self.watched.items c.self.invariant.counted c.self.invariant.listed, c.self.invariant.indexed.few)
