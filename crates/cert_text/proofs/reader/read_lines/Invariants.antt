use Rattle.std.proofs.Common.{◌+◌, ◌≤◌, ◌++◌, length}
use Rattle.cert_text.specs.Values.{plain_lines}
use Rattle.cert_text.proofs.Streaming.{SoFar}
use Rattle.cert_text.proofs.reader.read_lines.Given as goal

abbrev pub invariant-loop-front : goal.invariant-loop-front
invariant-loop-front l = record {
  so_far : SoFar (l.fn.kept.items ++ l.text) (plain_lines l.lines.items) l.kept.items l.rest;
  counted : length l.lines.items + length l.rest ≤ length l.text;
}

abbrev pub decreases-loop-front : goal.decreases-loop-front
decreases-loop-front l = length l.rest
