use Rattle.std.proofs.Common.{length, ap, arith}
use Rattle.std.proofs.lemmas.List.{take_all}
use Rattle.ground_all.proofs.TextLaws.{words, length-words_more, object_short, length-bracketed}
use Rattle.ground_all.proofs.names.bracketed_len.Goals as goal

pub loop-object-preserved : goal.loop-object-preserved
loop-object-preserved c =
    let i = c.loop-object.object-index in
    let more = length-words_more c.args.typed.now c.args.objects.now i c.loop-object-test.true in
    let short = object_short c.args.typed.now c.args.objects.now i c.requires.sound c.requires.objects c.loop-object-test.true in
    let len = ap length c.object_name.ensures in
    record { so_far = omega (arith, more, len); short = omega (arith, more, short) }

pub returns-clause-len : goal.returns-clause-len
returns-clause-len c =
    let all = ap (λ objects. length (words c.args.typed.now objects)) (take_all c.loop-object.object-index c.args.objects.now c.loop-object-test.false) in
    omega (arith, all, length-bracketed c.args.typed.now c.args.name.now c.args.objects.now)

pub returns-clause-short : goal.returns-clause-short
returns-clause-short c = omega (arith, c.loop-object.invariant.so_far, c.loop-object.invariant.short, c.loop-object.auto.object-index-end, c.requires.short, c.requires.few)
