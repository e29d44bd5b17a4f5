use Rattle.std.proofs.Common.{◌≡◌, ◌≤◌, ◌<◌, ◌∙◌, ap, length, arith, List, ◌++◌}
use Rattle.grd_base.specs.declared.ids.ActionId.{ActionId}
use Rattle.strips_model.specs.Values.{PlainWitness}
use Rattle.design_certificate.proofs.ChoiceLemmas.{seen_with, seen_all, seen_none}
use Rattle.design_certificate.proofs.choices.with_choices.Goals as goal
use Rattle.design_certificate.proofs.choices.with_choices.Goals.{then-as_slice-members+in_ok-add_new+in_ok-add_new-2, else-as_slice-members}

pub returns : goal.returns
returns c =
    let kept = c.in_ok-seen.ensures.items in
    let count = ap (λ (xs : List ActionId). length xs) c.as_slice.ensures.same in
    elim c.if-as_slice-members.branch [
      | then-as_slice-members+in_ok-add_new+in_ok-add_new-2 w ↦
          let few : length c.args.removed.now < c.args.members = omega (arith, count, w.if-as_slice-members.true) in
          let first = w.as_slice-then-as_slice-members.ensures.value ∙ ap (λ (x : PlainWitness). x.plans.0) c.witness.view_is in
          let second = w.as_slice-then-as_slice-members-2.ensures.value ∙ ap (λ (x : PlainWitness). x.plans.1) c.witness.view_is in
          ap (λ x. x.items) w.seen-is
          ∙ seen_all c.args.members c.args.removed.now c.args.kept.now w.add_new-then-as_slice-members.new.seen.items w.add_new.new.seen.items c.args.witness.now few
          (λ more. w.in_ok-add_new.ensures more ∙ plan_is kept first more)
          (λ more. w.in_ok-add_new-2.ensures more ∙ ap (λ p. seen_with w.add_new.new.seen.items (p ++ more)) second)
      | else-as_slice-members w ↦
          let full : c.args.members ≤ length c.args.removed.now = omega (arith, count, w.if-as_slice-members.false) in
          ap (λ x. x.items) w.seen-is ∙ kept ∙ seen_none c.args.members c.args.removed.now c.args.kept.now c.args.witness.now full
    ]
  where
    plan_is : {kept items p q : List ActionId} → items ≡ kept → p ≡ q → (more : List ActionId) → seen_with items (p ++ more) ≡ seen_with kept (q ++ more)
    plan_is {kept} {items} {p} {q} same plan more = ap (λ xs. seen_with xs (p ++ more)) same ∙ ap (λ xs. seen_with kept (xs ++ more)) plan
