use Rattle.std.specs.Prelude.{IsTrue, ◌↔◌}
use Rattle.std.proofs.Common.{◌≡◌, ◌^◌, ◌∙◌, true, false, get_or, length, subst, sym, arith}
use Rattle.std.proofs.lemmas.List.{length-set}
use Rattle.type_check.specs.Chains.{AreSteps}
use Rattle.type_check.proofs.ChainLaws.{steps_within, marks_some, reached_circles, IsReached}
use Rattle.type_check.proofs.chains.returning.Goals as goal

pub index_mut-requires : goal.index_mut-requires
index_mut-requires c =
    let are = subst (AreSteps c.args.parents.now (2 ^ 32)) (sym c.deref-step-items.ensures.value) c.in_ok-far.ensures in
    omega (arith, are.each, steps_within c.args.parents.now c.requires.within (2 ^ 32) c.deref-step-items.result.now are c.loop-step.step-index c.in-Some.at c.in-Some.is)

pub loop-step-preserved : goal.loop-step-preserved
loop-step-preserved c =
    let are = subst (AreSteps c.args.parents.now (2 ^ 32)) (sym c.deref-step-items.ensures.value) c.in_ok-far.ensures in
    let within = steps_within c.args.parents.now c.requires.within (2 ^ 32) c.deref-step-items.result.now are c.loop-step.step-index c.in-Some.at c.in-Some.is in (
      length-set c.loop-step.returning.items c.in-Some.at true ∙ c.loop-step.invariant.0,
      marks_some c.deref-step-items.result.now c.loop-step.step-index c.loop-step.returning.items c.in-Some.at c.loop-step-test.true c.in-Some.is (omega (arith, within, are.each))
          c.loop-step.invariant.1,
    )

pub returns : goal.returns
returns c =
    let are = subst (AreSteps c.args.parents.now (2 ^ 32)) (sym c.deref-step-items.ensures.value) c.in_ok-far.ensures in
    let all : c.loop-step.step-index ≡ length c.deref-step-items.result.now = omega arith in
    record {
      each = c.loop-step.invariant.0;
      marked = λ k.
          let marks = subst (λ n. IsTrue (get_or c.loop-step.returning.items k false) ↔ IsReached c.deref-step-items.result.now n k) all (c.loop-step.invariant.1 k) in
          let far = reached_circles c.args.parents.now (2 ^ 32) c.deref-step-items.result.now c.requires.within c.requires.few are k in
          (λ yes. far.0 (marks.0 yes), λ circles. marks.1 (far.1 circles));
    }
