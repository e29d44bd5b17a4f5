use Rattle.std.proofs.Common.{◌≡◌, ◌<◌, [], ◌∷◌, ◌++◌, sym, ap, ◌∙◌, arith}
use Rattle.std.specs.Prelude.{vec_len}
use Rattle.std.specs.Str.{str_to_ascii_lowercase}
use Rattle.pddl_lexer.proofs.Steps.{some_len}
use Rattle.pddl_reader.specs.Forms.{word_of, form_at}
use Rattle.pddl_reader.specs.Classes.{is_element}
use Rattle.pddl_reader.proofs.ItemLemmas.{form_at-word}
use Rattle.pddl_reader.proofs.TypedReadings.{some-dash, element-taken, dash-taken}
use Rattle.pddl_reader.proofs.typed.TypedReading.take_element.Goals as goal

pub returns-then-is_element-clause-taken : goal.returns-then-is_element-clause-taken
returns-then-is_element-clause-taken c =
    let text = c.args.text.now in
    let w = word_of text c.in-Word.token in
    let waiting = c.args.self.now.waiting.items in
    let is = ap (form_at text) c.in-Word.is ∙ form_at-word text c.in-Word.token in
    let element = sym (c.is_element.ensures ∙ ap (λ bytes. is_element c.args.listed (str_to_ascii_lowercase bytes)) c.bytes_of.ensures.value) ∙ c.if-is_element.true in
    let pushed : c.push.new.self.items ≡ waiting ++ c.in_ok-word.field-0 ∷ [] = c.in_ok-push.ensures.items in
    let after = pushed ∙ ap (λ name. waiting ++ name ∷ []) c.in_ok-word.ensures in
    λ at forms. element-taken c.args.listed at c.args.self.now.names.items waiting c.args.self.now.dash (form_at text c.args.item.now) w forms c.requires.no_dash is c.push.new.self.items element after

pub returns-clause-taken : goal.returns-clause-taken
returns-clause-taken c =
    let text = c.args.text.now in
    let w = word_of text c.in-Word.token in
    let waiting = c.args.self.now.waiting in
    let is = ap (form_at text) c.in-Word.is ∙ form_at-word text c.in-Word.token in
    let other = sym (c.is_element.ensures ∙ ap (λ bytes. is_element c.args.listed (str_to_ascii_lowercase bytes)) c.bytes_of.ensures.value) ∙ c.if-is_element.false in
    let some : 0 < vec_len waiting = some_len (vec_len waiting) (sym c.is_empty.ensures ∙ c.if-is_empty.false) in
    let dash = some-dash waiting.items w.text (omega (arith, some, waiting.ok.0)) (sym c.if-not-is_word.false ∙ c.is_word.ensures) in
    λ at forms. dash-taken c.args.listed at c.args.self.now.names.items waiting.items c.args.self.now.dash (form_at text c.args.item.now) w forms c.requires.no_dash is other dash
