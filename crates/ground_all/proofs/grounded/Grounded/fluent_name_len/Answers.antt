use Rattle.std.proofs.Common.{◌≡◌, ◌<◌, ◌≤◌, ap, sym, ◌∙◌, subst, length, take}
use Rattle.std.specs.List.{All}
use Rattle.type_check.specs.Values.{PlainTypedPredicate}
use Rattle.type_check.specs.Ground.{bracketed}
use Rattle.ground_all.specs.Grounding.{PlainGrounded}
use Rattle.ground_all.specs.Sound.{IsSound}
use Rattle.ground_all.proofs.SoundLaws.{sound}
use Rattle.ground_all.proofs.NameLaws.{atom_short, atom_known, text_of_atom}
use Rattle.ground_all.proofs.grounded.Grounded.fluent_name_len.Goals as goal

pub bracketed_len-requires-clause-sound : goal.bracketed_len-requires-clause-sound
bracketed_len-requires-clause-sound c = sound c.self.inside.typed.now c.self.invariant.typed

pub bracketed_len-requires-clause-short : goal.bracketed_len-requires-clause-short
bracketed_len-requires-clause-short c =
    let q = c.atom_at-count.result.0.now in
    let same = ap (λ (g : PlainGrounded). g.typed) c.self.view_is in
    let named : c.as_str.result.now ≡ q.name.text =
    c.as_str.ensures.value ∙ ap (λ i. i.name.text) c.predicate-inside.view_is ∙ ap (λ (q : PlainTypedPredicate). q.name.text) c.predicate.view_is in
    subst (λ text. length text ≤ 1048576) (sym named)
    (atom_short c.args.self.now.typed c.args.a.0 q (take c.atom_at-count.result.1 c.atom_at-count.new.objects)
    (subst IsSound same (sound c.self.inside.typed.now c.self.invariant.typed)) c.atom_at-count.ensures.atom)

pub bracketed_len-requires-clause-objects : goal.bracketed_len-requires-clause-objects
bracketed_len-requires-clause-objects c =
    let objects = take c.atom_at-count.result.1 c.atom_at-count.new.objects in
    let same = ap (λ (g : PlainGrounded). g.typed) c.self.view_is in
    subst (λ t. All (λ k. k < length t.objects) objects) (sym same)
    (atom_known c.args.self.now.typed c.args.a.0 c.atom_at-count.result.0.now objects (subst IsSound same (sound c.self.inside.typed.now c.self.invariant.typed)) c.atom_at-count.ensures.atom)

pub returns-clause-text : goal.returns-clause-text
returns-clause-text c atom there =
    let q = c.atom_at-count.result.0.now in
    let objects = take c.atom_at-count.result.1 c.atom_at-count.new.objects in
    let same = ap (λ (g : PlainGrounded). g.typed) c.self.view_is in
    let named : c.as_str.result.now ≡ q.name.text =
    c.as_str.ensures.value ∙ ap (λ i. i.name.text) c.predicate-inside.view_is ∙ ap (λ (q : PlainTypedPredicate). q.name.text) c.predicate.view_is in
    c.bracketed_len.ensures.len
    ∙ ap (λ t. length (bracketed t c.as_str.result.now objects)) same
    ∙ ap (λ name. length (bracketed c.args.self.now.typed name objects)) named
    ∙ ap length (text_of_atom c.args.self.now.typed c.args.a.0 q objects (subst IsSound same (sound c.self.inside.typed.now c.self.invariant.typed)) c.atom_at-count.ensures.atom atom there)
