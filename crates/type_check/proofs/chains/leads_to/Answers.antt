use Rattle.std.proofs.Common.{rules, arith}
use Rattle.type_check.proofs.ChainLaws.{climb-step, unmet_more, unmet_end, unmet_long}
use Rattle.type_check.proofs.chains.leads_to.Goals as goal

pub returns-in-None : goal.returns-in-None
returns-in-None c =
    let unmet = unmet_more c.args.parents.now c.args.from c.args.to c.loop.counter c.loop.at c.loop.invariant.2 c.loop.invariant.1 c.if-at-to.false in
    (λ e. cc, λ way. absurd (unmet_end c.args.parents.now c.args.from c.args.to c.loop.counter c.loop.at unmet c.loop.invariant.1 (search rules) way))

pub loop-preserved : goal.loop-preserved
loop-preserved c = (
  c.requires.within c.loop.at c.in-Some.parent c.in-Some.is,
  climb-step c.args.parents.now c.loop.counter c.args.from c.loop.at c.in-Some.parent c.loop.invariant.1 c.in-Some.is,
  unmet_more c.args.parents.now c.args.from c.args.to c.loop.counter c.loop.at c.loop.invariant.2 c.loop.invariant.1 c.if-at-to.false,
)

pub returns : goal.returns
returns c = (
  λ e. cc,
  λ way.
      absurd
      (unmet_long c.args.parents.now c.args.from c.args.to c.requires.within c.requires.known
      (λ m less. c.loop.invariant.2 m (omega (arith, less, c.loop-test.false, c.loop.auto.counter-end))) way),
)
