use Rattle.std.proofs.Common.{◌≡◌, ◌++◌, map, take}
use Rattle.cert_text.specs.Lines.{Number, spaced}
use Rattle.cert_text.proofs.pushes.push_numbers.Given as goal

abbrev pub invariant-loop-number : goal.invariant-loop-number
invariant-loop-number l = l.text.items ≡ l.fn.text.items ++ spaced (map Number (take l.number-index l.numbers))
