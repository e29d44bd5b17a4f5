use Rattle.cert_text.proofs.WordLaws.{words_front}
use Rattle.cert_text.proofs.words.first_word.Goals as goal

pub returns-clause-words : goal.returns-clause-words
returns-clause-words c = rw (c.split_at.ensures.front, c.split_at.ensures.back, c.word_len.ensures.value) (words_front c.args.line.now)
