use Rattle.cert_text.proofs.Spelling.{one_line, not_both}
use Rattle.cert_text.proofs.laws.one_spelling.Goals as goal

pub returns : goal.returns
returns c = record {
  line = one_line;
  in_range = not_both;
  of_a_kind = λ bytes l e good kind. kind l (record { text = e; has_goals = good.has_goals });
  one_fault = λ bytes over kind. kind over.line over.spelled;
}
