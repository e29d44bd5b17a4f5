use Rattle.std.proofs.Common.{◌≡◌}
use Rattle.text_tests.proofs.certificates.read_by_bytes.Given as goal

abbrev pub invariant-loop-at : goal.invariant-loop-at
invariant-loop-at l = l.reader.fed ≡ l.at
