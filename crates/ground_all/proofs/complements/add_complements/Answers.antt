use Rattle.std.proofs.Common.{◌≡◌, List, [], ◌∷◌, ◌++◌, get_or, sym, ap, ◌∙◌, append-nil, append_assoc}
use Rattle.std.proofs.lemmas.List.{get_or_default}
use Rattle.grd_base.specs.declared.ids.AtomId.{AtomId}
use Rattle.ground_all.proofs.ComplementLaws.{complements_to, complements_none, next_unwatched, next_other, next_watched}
use Rattle.ground_all.proofs.complements.add_complements.Goals.{in-Some+then-not-contains+in_ok-push, in-Some+else-not-contains, in_default}
use Rattle.ground_all.proofs.complements.add_complements.Goals as goal

pub loop-atom-init : goal.loop-atom-init
loop-atom-init c =
    sym (append-nil c.args.into.now.items) ∙ ap (λ xs. c.args.into.now.items ++ xs) (sym (complements_none c.args.watched.now c.args.list.now c.args.others.now c.args.fluents))

pub loop-atom-preserved : goal.loop-atom-preserved
loop-atom-preserved c =
    let watched = c.args.watched.now in
    let list = c.args.list.now in
    let others = c.args.others.now in
    let fluents = c.args.fluents in
    let i = c.loop-atom.atom-index in
    let none : AtomId = record { 0 = 0 } in
    let x : AtomId = get_or list i none in
    let within = c.loop-atom-test.true in
    let is : x ≡ get_or list i x = get_or_default list i none x within in
    let front = c.args.into.now.items in
    let before = c.loop-atom.invariant in
    elim c.match-complement_of.branch [
      | in-Some+then-not-contains+in_ok-push w ↦
          ap (λ v. v.items) w.into-is ∙ w.in_ok-push.ensures.items ∙ ap (λ (xs : List AtomId). xs ++ w.in-Some.complement ∷ []) before
          ∙ append_assoc front (complements_to watched fluents list others i) (w.in-Some.complement ∷ [])
          ∙ ap (λ (xs : List AtomId). front ++ xs) (sym (next_watched watched list others fluents i x c.requires.watched c.requires.list within is
          w.in-Some.ensures.0 w.in-Some.complement w.in-Some.ensures.1 w.in-Some.ensures.2 (sym w.contains.ensures.value ∙ w.if-not-contains.true)))
      | in-Some+else-not-contains w ↦
          ap (λ v. v.items) w.into-is ∙ before
          ∙ ap (λ (xs : List AtomId). front ++ xs) (sym (next_other watched list others fluents i x c.requires.watched c.requires.list within is (sym w.contains.ensures.value ∙ w.if-not-contains.false)))
      | in_default w ↦
          ap (λ v. v.items) w.into-is ∙ before
          ∙ ap (λ (xs : List AtomId). front ++ xs) (sym (next_unwatched watched list others fluents i x c.requires.watched c.requires.list within is w.in_default.ensures))
    ]
