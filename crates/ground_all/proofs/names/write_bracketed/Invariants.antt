use Rattle.ground_all.proofs.TextLaws.{front}
use Rattle.ground_all.specs.Names.{IsWritten}
use Rattle.ground_all.proofs.names.write_bracketed.Given as goal

abbrev pub invariant-loop-object : goal.invariant-loop-object
invariant-loop-object l = IsWritten (front l.typed l.name l.objects l.object-index) l.fn.into l.into l.at
