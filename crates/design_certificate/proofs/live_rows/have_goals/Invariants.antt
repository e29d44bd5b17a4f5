use Rattle.design_certificate.proofs.GivenLemmas.{AreListed}
use Rattle.design_certificate.proofs.live_rows.have_goals.Given as goal

abbrev pub invariant-loop-k : goal.invariant-loop-k
invariant-loop-k l = AreListed l.fn.costs l.fn.tables l.at l.k
