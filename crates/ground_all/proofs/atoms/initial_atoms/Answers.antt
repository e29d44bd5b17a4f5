use Rattle.std.proofs.Common.{ap, ◌∙◌, arith}
use Rattle.type_check.specs.Values.{PlainTyped}
use Rattle.ground_all.proofs.AtomKeys.{keys_more, each_typed, keys_all}
use Rattle.ground_all.proofs.atoms.initial_atoms.Goals as goal
use Rattle.ground_all.proofs.atoms.initial_atoms.Goals.{in-Some+in_ok-insert, in_default}

pub loop-atom-preserved : goal.loop-atom-preserved
loop-atom-preserved c =
    let t = c.args.typed.now in
    let init = c.deref-atom-items.result.now in
    let same = c.deref-atom-items.ensures.value ∙ ap (λ (t : PlainTyped). t.init) c.typed.view_is in
    let i = c.loop-atom.atom-index in
    elim c.match-key_of.branch [
      | in-Some+in_ok-insert w ↦ rw w.keys-is (keys_more t c.requires init same i c.atom-item.result w.in-Some.key c.loop-atom.keys.keys _ (omega arith) c.atom-item.is w.in-Some.ensures w.in_ok-insert.ensures.keys c.loop-atom.invariant)
      | in_default w ↦ absurd (w.in_default.ensures (each_typed t c.requires init same i c.atom-item.result (omega arith) c.atom-item.is))
    ]

pub returns : goal.returns
returns c =
    keys_all c.args.typed.now c.requires c.deref-atom-items.result.now (c.deref-atom-items.ensures.value ∙ ap (λ (t : PlainTyped). t.init) c.typed.view_is) c.loop-atom.atom-index c.loop-atom.keys.keys (omega arith) c.loop-atom.invariant
