use Rattle.std.proofs.Common.{◌≡◌, ◌<◌, ◌≤◌, ap, sym, ◌∙◌, subst, length, take}
use Rattle.std.specs.List.{All}
use Rattle.type_check.specs.Values.{PlainTypedSchema}
use Rattle.type_check.specs.Ground.{bracketed}
use Rattle.ground_all.specs.Grounding.{PlainGrounded}
use Rattle.ground_all.specs.Sound.{IsSound}
use Rattle.ground_all.proofs.SoundLaws.{sound}
use Rattle.ground_all.proofs.NameLaws.{action_short, action_known, text_of_action}
use Rattle.ground_all.proofs.grounded.Grounded.action_name_len.Goals as goal

pub bracketed_len-requires-clause-sound : goal.bracketed_len-requires-clause-sound
bracketed_len-requires-clause-sound c = sound c.self.inside.typed.now c.self.invariant.typed

pub bracketed_len-requires-clause-short : goal.bracketed_len-requires-clause-short
bracketed_len-requires-clause-short c =
    let s = c.action_at-count.result.0.now in
    let same = ap (λ (g : PlainGrounded). g.typed) c.self.view_is in
    let named : c.as_str.result.now ≡ s.name.text =
    c.as_str.ensures.value ∙ ap (λ i. i.name.text) c.schema-inside.view_is ∙ ap (λ (s : PlainTypedSchema). s.name.text) c.schema.view_is in
    subst (λ text. length text ≤ 1048576) (sym named)
    (action_short c.args.self.now.typed c.args.a.0 s (take c.action_at-count.result.1 c.action_at-count.new.objects)
    (subst IsSound same (sound c.self.inside.typed.now c.self.invariant.typed)) c.action_at-count.ensures.action)

pub bracketed_len-requires-clause-objects : goal.bracketed_len-requires-clause-objects
bracketed_len-requires-clause-objects c =
    let objects = take c.action_at-count.result.1 c.action_at-count.new.objects in
    let same = ap (λ (g : PlainGrounded). g.typed) c.self.view_is in
    subst (λ t. All (λ k. k < length t.objects) objects) (sym same)
    (action_known c.args.self.now.typed c.args.a.0 c.action_at-count.result.0.now objects (subst IsSound same (sound c.self.inside.typed.now c.self.invariant.typed)) c.action_at-count.ensures.action)

pub returns : goal.returns
returns c name there =
    let s = c.action_at-count.result.0.now in
    let objects = take c.action_at-count.result.1 c.action_at-count.new.objects in
    let same = ap (λ (g : PlainGrounded). g.typed) c.self.view_is in
    let named : c.as_str.result.now ≡ s.name.text =
    c.as_str.ensures.value ∙ ap (λ i. i.name.text) c.schema-inside.view_is ∙ ap (λ (s : PlainTypedSchema). s.name.text) c.schema.view_is in
    c.bracketed_len.ensures.len
    ∙ ap (λ t. length (bracketed t c.as_str.result.now objects)) same
    ∙ ap (λ name. length (bracketed c.args.self.now.typed name objects)) named
    ∙ ap length (text_of_action c.args.self.now.typed c.args.a.0 s objects (subst IsSound same (sound c.self.inside.typed.now c.self.invariant.typed)) c.action_at-count.ensures.action name there)
