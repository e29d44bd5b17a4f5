use Rattle.std.proofs.Common.{◌++◌, ◌≡◌, ◌<◌, ap, sym, ◌∙◌, subst, arith, length, take, drop}
use Rattle.std.specs.List.{All}
use Rattle.type_check.specs.Values.{PlainTypedPredicate}
use Rattle.type_check.specs.Ground.{bracketed, atom_text}
use Rattle.ground_all.specs.Grounding.{PlainGrounded}
use Rattle.ground_all.specs.Sound.{IsSound}
use Rattle.ground_all.proofs.SoundLaws.{sound}
use Rattle.ground_all.proofs.NameLaws.{atom_known, text_of_atom}
use Rattle.ground_all.proofs.grounded.Grounded.write_fluent.Goals as goal

pub write_bracketed-requires-clause-objects : goal.write_bracketed-requires-clause-objects
write_bracketed-requires-clause-objects c =
    let objects = take c.atom_at-count.result.1 c.atom_at-count.new.objects in
    let same = ap (λ (g : PlainGrounded). g.typed) c.self.view_is in
    subst (λ t. All (λ k. k < length t.objects) objects) (sym same)
    (atom_known c.args.self.now.typed c.args.a.0 c.atom_at-count.result.0.now objects (subst IsSound same (sound c.self.inside.typed.now c.self.invariant.typed)) c.atom_at-count.ensures.atom)

pub write_bracketed-requires-clause-room : goal.write_bracketed-requires-clause-room
write_bracketed-requires-clause-room c =
    let q = c.atom_at-count.result.0.now in
    let objects = take c.atom_at-count.result.1 c.atom_at-count.new.objects in
    let same = ap (λ (g : PlainGrounded). g.typed) c.self.view_is in
    let named : c.as_str.result.now ≡ q.name.text =
    c.as_str.ensures.value ∙ ap (λ i. i.name.text) c.predicate-inside.view_is ∙ ap (λ (q : PlainTypedPredicate). q.name.text) c.predicate.view_is in
    let text : bracketed c.self.inside.typed.now c.as_str.result.now objects ≡ bracketed c.args.self.now.typed q.name.text objects =
    ap (λ t. bracketed t c.as_str.result.now objects) same ∙ ap (λ name. bracketed c.args.self.now.typed name objects) named in
    let at = c.atom_at-count.ensures.atom in
    let sound = subst IsSound same (sound c.self.inside.typed.now c.self.invariant.typed) in
    omega (arith, c.requires.2, ap length text, ap length (text_of_atom c.args.self.now.typed c.args.a.0 q objects sound at c.requires.0 c.requires.1))

pub returns : goal.returns
returns c atom there =
    let q = c.atom_at-count.result.0.now in
    let objects = take c.atom_at-count.result.1 c.atom_at-count.new.objects in
    let same = ap (λ (g : PlainGrounded). g.typed) c.self.view_is in
    let named : c.as_str.result.now ≡ q.name.text =
    c.as_str.ensures.value ∙ ap (λ i. i.name.text) c.predicate-inside.view_is ∙ ap (λ (q : PlainTypedPredicate). q.name.text) c.predicate.view_is in
    let text : bracketed c.self.inside.typed.now c.as_str.result.now objects ≡ bracketed c.args.self.now.typed q.name.text objects =
    ap (λ t. bracketed t c.as_str.result.now objects) same ∙ ap (λ name. bracketed c.args.self.now.typed name objects) named in
    let sound = subst IsSound same (sound c.self.inside.typed.now c.self.invariant.typed) in
    let whole : bracketed c.self.inside.typed.now c.as_str.result.now objects ≡ atom_text c.args.self.now.typed atom =
    text ∙ text_of_atom c.args.self.now.typed c.args.a.0 q objects sound c.atom_at-count.ensures.atom atom there in
    record {
      place = c.write_bracketed.ensures.len ∙ ap length whole;
      whole = c.write_bracketed.ensures.text ∙ ap (λ bytes. bytes ++ drop c.write_bracketed.result c.args.into.now) whole;
    }
