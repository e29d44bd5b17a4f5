use Rattle.std.proofs.Common.{◌≡◌, drop}
use Rattle.std.specs.Str.{bytes_eq, str_to_ascii_lowercase}
use Rattle.pddl_reader.proofs.classes.is.Given as goal

abbrev pub invariant-loop-i : goal.invariant-loop-i
invariant-loop-i l = bytes_eq (drop l.i l.word) (str_to_ascii_lowercase (drop l.i l.text)) ≡ bytes_eq l.word (str_to_ascii_lowercase l.text)
