use Rattle.std.proofs.Common.{sym, ap, ◌∙◌}
use Rattle.std.specs.Str.{str_to_ascii_lowercase}
use Rattle.pddl_reader.specs.Classes.{is_one_of, accepted}
use Rattle.pddl_reader.specs.Forms.{word_of, form_at}
use Rattle.pddl_reader.proofs.ItemLemmas.{form_at-word}
use Rattle.pddl_reader.proofs.SectionSteps.{accepted_word}
use Rattle.pddl_reader.proofs.sections.requirement.Goals as goal

pub returns-then-is_accepted-clause-read : goal.returns-then-is_accepted-clause-read
returns-then-is_accepted-clause-read c =
    let text = c.args.text.now in
    let token = c.in-Word.token in (
      word_of text token,
      accepted_word _ (word_of text token) (ap (form_at text) c.in-Word.is ∙ form_at-word text token)
          (ap (λ bytes. is_one_of accepted (str_to_ascii_lowercase bytes)) (sym c.bytes_of-bytes.ensures.value) ∙ sym c.is_accepted.ensures ∙ c.if-is_accepted.true),
    )
