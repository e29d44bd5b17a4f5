use Rattle.std.proofs.Common.{take, refl, sym, ◌∙◌, subst, arith, rules}
use Rattle.std.proofs.lemmas.Bool.{false≢true}
use Rattle.grd_base.specs.Bits.{members}
use Rattle.strips_model.specs.Values.{AreAtoms}
use Rattle.cost_certificate.proofs.FamilyLemmas.{family_none, family_grows, family_whole, set_fails, set_read, sets_length}
use Rattle.cost_certificate.proofs.soundness.fault_of_sets.Goals as goal

pub loop-i-init : goal.loop-i-init
loop-i-init g c = record {
  family = family_none c.args.moves.now.task c.args.goal c.args.moves.now.removed (members c.args.s.now);
  seen = c.new-seen.ensures c.args.moves.now.task c.args.moves.now.removed;
}

pub fault_of_set-requires : goal.fault_of_set-requires
fault_of_set-requires g c =
    let sets = c.args.family.now in
    let read = set_read c.deref-set-items.result.now c.family.inside.sets.items sets c.loop-i.i c.set-item.result c.as_slice.result.now c.family.view_is c.deref-set-items.ensures.value c.loop-i-test.true c.set-item.is c.as_slice.ensures.value in
    let are : AreAtoms c.args.moves.now.task.atoms c.as_slice.result.now = subst (AreAtoms c.args.moves.now.task.atoms) (sym read.1) (c.requires.sets c.loop-i.i c.as_slice.result.now read.0) in
    (search rules, (c.requires.width, (c.requires.atoms, (c.requires.goal, are))))

pub returns-in-Some-clause-fails : goal.returns-in-Some-clause-fails
returns-in-Some-clause-fails g c =
    let t = c.args.moves.now.task in
    let removed = c.args.moves.now.removed in
    let sets = c.args.family.now in
    let read = set_read c.deref-set-items.result.now c.family.inside.sets.items sets c.loop-i.i c.set-item.result c.as_slice.result.now c.family.view_is c.deref-set-items.ensures.value c.loop-i-test.true c.set-item.is c.as_slice.ensures.value in
    let fails = rw c.in-Some.is at c.in_ok-kind.ensures.fails in
    set_fails t c.args.goal removed (members c.args.s.now) sets c.loop-i.i c.as_slice.result.now read.0 read.1 c.args.bound c.in-Some.kind c.loop-i.invariant.family (fails (take c.loop-i.i sets) c.loop-i.invariant.seen)

pub loop-i-preserved : goal.loop-i-preserved
loop-i-preserved g c =
    let t = c.args.moves.now.task in
    let removed = c.args.moves.now.removed in
    let sets = c.args.family.now in
    let read = set_read c.deref-set-items.result.now c.family.inside.sets.items sets c.loop-i.i c.set-item.result c.as_slice.result.now c.family.view_is c.deref-set-items.ensures.value c.loop-i-test.true c.set-item.is c.as_slice.ensures.value in
    let joins = rw c.in_default.is at c.in_ok-kind.ensures.joins in
    let grown = family_grows t c.args.goal removed (members c.args.s.now) sets c.loop-i.i c.as_slice.result.now read.0 read.1 c.loop-i.seen c.fault_of_set.new.seen joins c.loop-i.invariant.family c.loop-i.invariant.seen in
    record { family = grown.0; seen = grown.1 }

pub returns-then-suffices-clause-holds : goal.returns-then-suffices-clause-holds
returns-then-suffices-clause-holds g c =
    let t = c.args.moves.now.task in
    let removed = c.args.moves.now.removed in
    let sets = c.args.family.now in
    let long = sets_length c.deref-set-items.result.now c.family.inside.sets.items sets c.family.view_is c.deref-set-items.ensures.value in
    let whole = family_whole t c.args.goal removed (members c.args.s.now) sets c.loop-i.i c.loop-i.seen (omega (arith, long)) c.loop-i.invariant.family c.loop-i.invariant.seen in
    (whole.0, (c.suffices.ensures t removed sets (long ∙ c.deref-set-items.ensures.len ∙ sym c.len.ensures) whole.1.empty).0 c.if-suffices.true)

pub returns-clause-fails : goal.returns-clause-fails
returns-clause-fails g c =
    let t = c.args.moves.now.task in
    let removed = c.args.moves.now.removed in
    let sets = c.args.family.now in
    let long = sets_length c.deref-set-items.result.now c.family.inside.sets.items sets c.family.view_is c.deref-set-items.ensures.value in
    let whole = family_whole t c.args.goal removed (members c.args.s.now) sets c.loop-i.i c.loop-i.seen (omega (arith, long)) c.loop-i.invariant.family c.loop-i.invariant.seen in
    let suffice = c.suffices.ensures t removed sets (long ∙ c.deref-set-items.ensures.len ∙ sym c.len.ensures) whole.1.empty in
    (refl, whole.0, λ enough. false≢true (sym c.if-suffices.false ∙ suffice.1 enough))
