use Rattle.std.proofs.Common.{◌≡◌, string_bytes, take}
use Rattle.std.specs.Str.{str_to_ascii_lowercase}
use Rattle.pddl_reader.proofs.words.folded.Given as goal

abbrev pub invariant-loop-b : goal.invariant-loop-b
invariant-loop-b l = string_bytes l.folded ≡ str_to_ascii_lowercase (take l.b-index l.text)
