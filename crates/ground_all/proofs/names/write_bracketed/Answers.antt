use Rattle.std.proofs.Common.{◌++◌, [], length, codes, refl, ap, ◌∙◌, subst, arith, length-append}
use Rattle.ground_all.specs.Names.{IsWritten}
use Rattle.ground_all.proofs.TextLaws.{front, length-bracketed, front_room, front_none, front_more, front_all, none_written, written, written_all}
use Rattle.ground_all.proofs.names.write_bracketed.Goals as goal

pub write-at-requires : goal.write-at-requires
write-at-requires c = omega (arith, c.requires.room, length-bracketed c.args.typed.now c.args.name.now c.args.objects.now)

pub write-at-requires-2 : goal.write-at-requires-2
write-at-requires-2 c =
    omega (arith, c.requires.room, c.write-at.ensures.place, c.write-at.auto.into, ap length c.as_bytes.ensures.value, length-bracketed c.args.typed.now c.args.name.now c.args.objects.now)

pub loop-object-init : goal.loop-object-init
loop-object-init c =
    let old = c.args.into.now in
    let one = written [] (codes "(") (codes "(") old old c.write-at.new.into 0 c.write-at.result (none_written old) refl c.write-at.ensures.place c.write-at.ensures.text in
    let two = written (codes "(") c.args.name.now c.as_bytes.result.now old c.write-at.new.into c.write-at-2.new.into c.write-at.result c.write-at-2.result
    one c.as_bytes.ensures.value c.write-at-2.ensures.place c.write-at-2.ensures.text in
    subst (λ front. IsWritten front old c.write-at-2.new.into c.write-at-2.result) (front_none c.args.typed.now c.args.name.now c.args.objects.now) two

pub write-at-requires-in-loop-object : goal.write-at-requires-in-loop-object
write-at-requires-in-loop-object c =
    omega (arith, c.requires.room, c.loop-object.invariant.place, c.loop-object.auto.into, front_room c.args.typed.now c.args.name.now c.args.objects.now c.loop-object.object-index c.loop-object-test.true)

pub write-at-requires-in-loop-object-2 : goal.write-at-requires-in-loop-object-2
write-at-requires-in-loop-object-2 c =
    omega (
      arith,
      c.requires.room,
      c.loop-object.invariant.place,
      c.loop-object.auto.into,
      c.write-at-in-loop-object.ensures.place,
      c.write-at-in-loop-object.auto.into,
      ap length (c.as_bytes-in-loop-object.ensures.value ∙ c.object_name.ensures),
      front_room c.args.typed.now c.args.name.now c.args.objects.now c.loop-object.object-index c.loop-object-test.true,
    )

pub loop-object-preserved : goal.loop-object-preserved
loop-object-preserved c =
    let old = c.args.into.now in
    let front = front c.args.typed.now c.args.name.now c.args.objects.now c.loop-object.object-index in
    let one = written front (codes " ") (codes " ") old c.loop-object.into c.write-at-in-loop-object.new.into c.loop-object.at c.write-at-in-loop-object.result
    c.loop-object.invariant refl c.write-at-in-loop-object.ensures.place c.write-at-in-loop-object.ensures.text in
    let two = written (front ++ codes " ") _ c.as_bytes-in-loop-object.result.now old c.write-at-in-loop-object.new.into c.write-at-in-loop-object-2.new.into
    c.write-at-in-loop-object.result c.write-at-in-loop-object-2.result one (c.as_bytes-in-loop-object.ensures.value ∙ c.object_name.ensures)
    c.write-at-in-loop-object-2.ensures.place c.write-at-in-loop-object-2.ensures.text in
    subst (λ front. IsWritten front old c.write-at-in-loop-object-2.new.into c.write-at-in-loop-object-2.result)
    (front_more c.args.typed.now c.args.name.now c.args.objects.now c.loop-object.object-index c.loop-object-test.true) two

pub write-requires : goal.write-requires
write-requires c =
    let front = front c.args.typed.now c.args.name.now c.args.objects.now c.loop-object.object-index in
    let all = front_all c.args.typed.now c.args.name.now c.args.objects.now c.loop-object.object-index c.loop-object-test.false in
    omega (arith, c.requires.room, c.loop-object.invariant.place, c.loop-object.auto.into, ap length all, length-append front (codes ")"))

pub returns-clause-len : goal.returns-clause-len
returns-clause-len c =
    (written_all c.args.typed.now c.args.name.now c.args.objects.now c.args.into.now c.loop-object.into c.write.new.into c.loop-object.object-index c.loop-object.at c.write.result
    c.loop-object.invariant c.loop-object-test.false c.write.ensures.place c.write.ensures.text).place

pub returns-clause-text : goal.returns-clause-text
returns-clause-text c =
    (written_all c.args.typed.now c.args.name.now c.args.objects.now c.args.into.now c.loop-object.into c.write.new.into c.loop-object.object-index c.loop-object.at c.write.result
    c.loop-object.invariant c.loop-object-test.false c.write.ensures.place c.write.ensures.text).whole
