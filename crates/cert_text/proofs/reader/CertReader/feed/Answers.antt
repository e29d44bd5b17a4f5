use Rattle.cert_text.specs.Values.{plain_lines}
use Rattle.cert_text.proofs.OneAnswer.{exact_answer}
use Rattle.cert_text.proofs.reader.CertReader.feed.Goals as goal

pub returns-clause-exactly : goal.returns-clause-exactly
returns-clause-exactly c = λ good fault kept none reads.
    exact_answer (λ v. plain_lines v.items) c.args.self.now c.args.piece.now _ _ _ (c.take.ensures.answer none) good fault kept reads
