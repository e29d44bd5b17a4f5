use Rattle.cert_text.proofs.OneAnswer.{one_answer as only_one}
use Rattle.cert_text.proofs.laws.one_answer.Goals as goal

pub returns : goal.returns
returns c = only_one
