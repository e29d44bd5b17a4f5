use Rattle.std.proofs.Common.{◌≡◌, ◌^◌, ◌+◌, subst, sym, arith}
use Rattle.type_check.specs.Chains.{AreSteps, AreWithin}
use Rattle.type_check.proofs.ChainLaws.{two_steps, more_steps, steps_within}
use Rattle.type_check.proofs.chains.far.Goals as goal

pub loop-init : goal.loop-init
loop-init c = subst (AreSteps c.args.parents.now 2) (sym c.in_ok-steps.ensures) (two_steps c.args.parents.now)

pub twice-requires-in-loop : goal.twice-requires-in-loop
twice-requires-in-loop c = record {
  within = subst AreWithin (sym c.as_slice.ensures.value) (steps_within c.args.parents.now c.requires.within (2 ^ c.loop.counter) c.loop.steps.items c.loop.invariant);
}

pub loop-preserved : goal.loop-preserved
loop-preserved c =
    subst (AreSteps c.args.parents.now (2 ^ (c.loop.counter + 1))) (sym c.in_ok-steps-2.ensures)
    (more_steps c.args.parents.now c.loop.counter c.as_slice.result.now (subst (AreSteps c.args.parents.now (2 ^ c.loop.counter)) (sym c.as_slice.ensures.value) c.loop.invariant))

pub returns : goal.returns
returns c =
    let all : c.loop.counter ≡ 32 = omega arith in
    subst (λ n. AreSteps c.args.parents.now (2 ^ n) c.loop.steps.items) all c.loop.invariant
