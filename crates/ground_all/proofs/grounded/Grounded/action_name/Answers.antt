use Rattle.std.proofs.Common.{◌≡◌, ◌<◌, ap, sym, ◌∙◌, subst, arith, length, take, drop}
use Rattle.std.specs.List.{All}
use Rattle.std.proofs.lemmas.List.{take_at}
use Rattle.type_check.specs.Values.{PlainTypedSchema}
use Rattle.type_check.specs.Ground.{bracketed}
use Rattle.ground_all.specs.Grounding.{PlainGrounded}
use Rattle.ground_all.specs.Sound.{IsSound}
use Rattle.ground_all.proofs.SoundLaws.{sound}
use Rattle.ground_all.proofs.NameLaws.{action_known, text_of_action, action_text_at}
use Rattle.ground_all.proofs.grounded.Grounded.action_name.Goals as goal

pub write_bracketed-requires-clause-objects : goal.write_bracketed-requires-clause-objects
write_bracketed-requires-clause-objects c =
    let objects = take c.action_at-count.result.1 c.action_at-count.new.objects in
    let same = ap (λ (g : PlainGrounded). g.typed) c.self.view_is in
    subst (λ t. All (λ k. k < length t.objects) objects) (sym same)
    (action_known c.args.self.now.typed c.args.a.0 c.action_at-count.result.0.now objects (subst IsSound same (sound c.self.inside.typed.now c.self.invariant.typed)) c.action_at-count.ensures.action)

pub write_bracketed-requires-clause-room : goal.write_bracketed-requires-clause-room
write_bracketed-requires-clause-room c =
    let s = c.action_at-count.result.0.now in
    let objects = take c.action_at-count.result.1 c.action_at-count.new.objects in
    let same = ap (λ (g : PlainGrounded). g.typed) c.self.view_is in
    let named : c.as_str.result.now ≡ s.name.text =
    c.as_str.ensures.value ∙ ap (λ i. i.name.text) c.schema-inside.view_is ∙ ap (λ (s : PlainTypedSchema). s.name.text) c.schema.view_is in
    let text : bracketed c.self.inside.typed.now c.as_str.result.now objects ≡ bracketed c.args.self.now.typed s.name.text objects =
    ap (λ t. bracketed t c.as_str.result.now objects) same ∙ ap (λ name. bracketed c.args.self.now.typed name objects) named in
    let at = c.action_at-count.ensures.action in
    let sound = subst IsSound same (sound c.self.inside.typed.now c.self.invariant.typed) in
    omega (arith, c.requires.room at.name at.there, ap length text, ap length (text_of_action c.args.self.now.typed c.args.a.0 s objects sound at at.name at.there))

pub returns-clause-text : goal.returns-clause-text
returns-clause-text c =
    let s = c.action_at-count.result.0.now in
    let objects = take c.action_at-count.result.1 c.action_at-count.new.objects in
    let same = ap (λ (g : PlainGrounded). g.typed) c.self.view_is in
    let named : c.as_str.result.now ≡ s.name.text =
    c.as_str.ensures.value ∙ ap (λ i. i.name.text) c.schema-inside.view_is ∙ ap (λ (s : PlainTypedSchema). s.name.text) c.schema.view_is in
    let text : bracketed c.self.inside.typed.now c.as_str.result.now objects ≡ bracketed c.args.self.now.typed s.name.text objects =
    ap (λ t. bracketed t c.as_str.result.now objects) same ∙ ap (λ name. bracketed c.args.self.now.typed name objects) named in
    let at = c.action_at-count.ensures.action in
    let sound = subst IsSound same (sound c.self.inside.typed.now c.self.invariant.typed) in
    let written = ap (take c.write_bracketed.result) c.write_bracketed.ensures.text
    ∙ take_at (bracketed c.self.inside.typed.now c.as_str.result.now objects) (drop c.write_bracketed.result c.args.into.now) c.write_bracketed.result (sym c.write_bracketed.ensures.len) in
    action_text_at c.args.self.now.typed c.args.a.0 s objects sound at (take c.write_bracketed.result c.write_bracketed.new.into) (written ∙ text)
