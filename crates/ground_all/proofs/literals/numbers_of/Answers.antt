use Rattle.std.proofs.Common.{Some, sym, ◌∙◌, ap}
use Rattle.std.proofs.lemmas.List.{take_all}
use Rattle.std.proofs.lemmas.List.Filters.{dedup_is}
use Rattle.strips_model.specs.Worlds.{has_atom, places_of}
use Rattle.type_check.specs.Values.{is_same_atom}
use Rattle.ground_all.specs.Grounding.{fluent_atoms}
use Rattle.ground_all.proofs.BlockLaws.{atoms_differ}
use Rattle.ground_all.proofs.AtomNumbers.{same_number, next_fluent, next_static, numbered_all}
use Rattle.ground_all.proofs.AtomLaws.{same_atom_decides, static_is}
use Rattle.ground_all.proofs.literals.numbers_of.Goals as goal
use Rattle.ground_all.proofs.literals.numbers_of.Goals.{in-Fluent+in_ok-push, in_default}

pub loop-atom-preserved : goal.loop-atom-preserved
loop-atom-preserved c =
    let t = c.args.atoms.now in
    let list = c.args.list.now in
    let at = c.loop-atom.atom-index in
    let differ = atoms_differ t c.find.ensures.sound in
    elim c.match-find.branch [
      | in-Fluent+in_ok-push w ↦
          next_fluent is_same_atom same_atom_decides (fluent_atoms t) list at c.atom-item.result c.loop-atom.numbers.items c.match-find.numbers.items w.in-Fluent.number
          c.loop-atom-test.true differ c.loop-atom.invariant (w.in-Fluent.ensures.standing ∙ ap Some c.atom-item.is) (ap (λ v. v.items) w.numbers-is ∙ w.in_ok-push.ensures.items)
      | in_default w ↦
          next_static is_same_atom same_atom_decides (fluent_atoms t) list at c.atom-item.result c.loop-atom.numbers.items c.match-find.numbers.items
          c.loop-atom-test.true c.loop-atom.invariant (ap (has_atom is_same_atom (fluent_atoms t)) (sym c.atom-item.is) ∙ static_is t c.atom-item.result c.find.result c.find.ensures.standing w.in_default.not-Fluent)
          (ap (λ v. v.items) w.numbers-is)
    ]

pub returns : goal.returns
returns c =
    let fluents = fluent_atoms c.args.atoms.now in
    let sorted = c.sort_unstable.new.self.items in
    dedup_is same_number sorted c.dedup.new.self.items c.dedup.ensures.filtered
    ∙ numbered_all is_same_atom fluents _ c.loop-atom.numbers.items sorted c.loop-atom.invariant c.sort_unstable.ensures.permutation c.sort_unstable.ensures.sorted
    ∙ ap (λ xs. places_of (has_atom is_same_atom xs) 0 fluents) (take_all c.loop-atom.atom-index c.args.list.now c.loop-atom-test.false)
