use Rattle.std.proofs.Common.{◌≡◌, ◌^◌, true, take, min}
use Rattle.std.specs.Str.{all_ascii_digits}
use Rattle.cert_text.specs.Reading.{begins_numeral, value_of}
use Rattle.cert_text.proofs.words.number_of.Given as goal

abbrev pub invariant-loop-digit : goal.invariant-loop-digit
invariant-loop-digit l = record {
  begins : begins_numeral l.word ≡ true;
  digits : all_ascii_digits (take l.digit-index l.word) ≡ true;
  number : l.number ≡ min (value_of (take l.digit-index l.word)) (2 ^ 32);
}
