use Rattle.std.proofs.Common.{◌-◌, [], length, drop, codes, refl, ap, arith}
use Rattle.std.proofs.lemmas.List.{length-append, length-drop, take_all}
use Rattle.type_check.specs.Ground.{atom_text}
use Rattle.ground_all.specs.Names.{IsWritten}
use Rattle.ground_all.proofs.TextLaws.{none_written, written}
use Rattle.ground_all.proofs.ComplementNames.{ended, room_behind}
use Rattle.ground_all.proofs.grounded.Grounded.write_complement.Goals as goal

pub write-at-requires : goal.write-at-requires
write-at-requires c = omega (arith, c.requires.2)

pub write_fluent-requires : goal.write_fluent-requires
write_fluent-requires c =
    let one = c.write-at.new.into in
    let text = atom_text c.args.self.now.typed c.requires.0 in
    let back = ap length (take_all (length one - c.write-at.result) (drop c.write-at.result one) (omega (arith, length-drop c.write-at.result one))) in
    (c.requires.0, c.requires.1, omega (arith, c.requires.2, back, length-drop c.write-at.result one, c.write-at.auto.into, c.write-at.ensures.place, length-append text (codes ")")))

pub write-requires : goal.write-requires
write-requires c =
    let old = c.args.into.now in
    let one = c.write-at.new.into in
    let at = c.write-at.result in
    let text = atom_text c.args.self.now.typed c.requires.0 in
    let inner = c.write_fluent.ensures c.requires.0 c.requires.1 in
    let front : IsWritten (codes "(not ") old one at = written [] (codes "(not ") (codes "(not ") old old one 0 at (none_written old) refl c.write-at.ensures.place c.write-at.ensures.text in
    room_behind (codes "(not ") text old one c.write_fluent.new.into _ at c.write_fluent.result front inner refl (omega (arith, c.requires.2, c.write-at.auto.into, c.write-at.ensures.place))
    (omega (arith, c.requires.2, c.write-at.ensures.place, inner.place, length-append text (codes ")")))

pub returns : goal.returns
returns c atom there =
    let old = c.args.into.now in
    let one = c.write-at.new.into in
    let at = c.write-at.result in
    let text = atom_text c.args.self.now.typed atom in
    let front : IsWritten (codes "(not ") old one at = written [] (codes "(not ") (codes "(not ") old old one 0 at (none_written old) refl c.write-at.ensures.place c.write-at.ensures.text in
    ended (codes "(not ") text old one c.write_fluent.new.into _ at c.write_fluent.result front (c.write_fluent.ensures atom there) refl (omega (arith, c.requires.2, c.write-at.auto.into, c.write-at.ensures.place))
    (codes ")") c.write.new.into c.write.result c.write.ensures.place c.write.ensures.text
