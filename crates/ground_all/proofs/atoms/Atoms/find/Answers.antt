use Rattle.std.proofs.Common.{◌≡◌, length, sym, ap, ◌∙◌, arith}
use Rattle.type_check.specs.Values.{PlainTyped, PlainGroundAtom}
use Rattle.ground_all.specs.Grounding.{is_one_twice}
use Rattle.ground_all.proofs.AtomKeys.{equality_stands}
use Rattle.ground_all.proofs.atoms.Atoms.find.Goals as goal

pub returns-then-is_one_twice-clause-standing : goal.returns-then-is_one_twice-clause-standing
returns-then-is_one_twice-clause-standing c =
    let equality : c.args.atom.now.predicate ≡ length c.args.self.now.predicates =
    omega (
      arith,
      ap (λ (a : PlainGroundAtom). a.predicate) c.atom.view_is,
      c.if-atom-len.false,
      c.len.ensures,
      c.typed.inside.predicates.ok.0,
      ap (λ (t : PlainTyped). length t.predicates) (c.typed.view_is ∙ c.self.view_is),
    ) in
    let objects = c.deref.ensures.value ∙ ap (λ (a : PlainGroundAtom). a.objects) c.atom.view_is in
    let stands = equality_stands c.args.self.now c.args.atom.now equality in
    (stands.0, stands.1 ∙ ap is_one_twice (sym objects) ∙ sym c.is_one_twice.ensures ∙ c.if-is_one_twice.true)

pub returns-else-is_one_twice-clause-standing : goal.returns-else-is_one_twice-clause-standing
returns-else-is_one_twice-clause-standing c =
    let equality : c.args.atom.now.predicate ≡ length c.args.self.now.predicates =
    omega (
      arith,
      ap (λ (a : PlainGroundAtom). a.predicate) c.atom.view_is,
      c.if-atom-len.false,
      c.len.ensures,
      c.typed.inside.predicates.ok.0,
      ap (λ (t : PlainTyped). length t.predicates) (c.typed.view_is ∙ c.self.view_is),
    ) in
    let objects = c.deref.ensures.value ∙ ap (λ (a : PlainGroundAtom). a.objects) c.atom.view_is in
    let stands = equality_stands c.args.self.now c.args.atom.now equality in
    (stands.0, stands.1 ∙ ap is_one_twice (sym objects) ∙ sym c.is_one_twice.ensures ∙ c.if-is_one_twice.false)
