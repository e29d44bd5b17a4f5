use Rattle.plain_search.specs.Live.{IsDearest}
use Rattle.plain_search.proofs.common.dearest.Given as goal

abbrev pub invariant-loop-i : goal.invariant-loop-i
invariant-loop-i l = IsDearest l.costs l.i l.most
