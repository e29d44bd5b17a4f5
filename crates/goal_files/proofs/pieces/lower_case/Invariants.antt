use Rattle.std.proofs.Common.{◌≡◌, string_bytes, take}
use Rattle.std.specs.Str.{str_to_ascii_lowercase}
use Rattle.goal_files.proofs.pieces.lower_case.Given as goal

abbrev pub invariant-loop-b : goal.invariant-loop-b
invariant-loop-b l = string_bytes l.text ≡ str_to_ascii_lowercase (take l.b-index l.bytes)
