use Rattle.std.proofs.Common.{◌≡◌, ◌+◌, ◌*◌, ◌≤◌, length, take}
use Rattle.ground_all.proofs.TextLaws.{words}
use Rattle.ground_all.proofs.names.bracketed_len.Given as goal

abbrev pub invariant-loop-object : goal.invariant-loop-object
invariant-loop-object l = record {
  so_far : l.len ≡ length l.name + 2 + length (words l.typed (take l.object-index l.objects));
  short : length (words l.typed (take l.object-index l.objects)) ≤ 1048577 * l.object-index;
}
