use Rattle.std.proofs.Common.{rules, arith}
use Rattle.type_check.proofs.ChainLaws.{climb-step, clear_more, clear_end, clear_long}
use Rattle.type_check.proofs.chains.meets.Goals as goal

pub returns-in-None : goal.returns-in-None
returns-in-None c =
    let clear = clear_more c.args.parents.now c.args.marks.now c.args.from c.loop.counter c.loop.at c.loop.invariant.2 c.loop.invariant.1 c.if-marks-at.false in
    (λ e. cc, λ met. absurd (clear_end c.args.parents.now c.args.marks.now c.args.from c.loop.counter c.loop.at clear c.loop.invariant.1 (search rules) met))

pub returns-then-marks-at : goal.returns-then-marks-at
returns-then-marks-at c = (λ e. (c.loop.at, (c.loop.counter, c.loop.invariant.1), c.if-marks-at.true), λ met. cc)

pub loop-preserved : goal.loop-preserved
loop-preserved c = (
  c.requires.within c.loop.at c.in-Some.parent c.in-Some.is,
  climb-step c.args.parents.now c.loop.counter c.args.from c.loop.at c.in-Some.parent c.loop.invariant.1 c.in-Some.is,
  clear_more c.args.parents.now c.args.marks.now c.args.from c.loop.counter c.loop.at c.loop.invariant.2 c.loop.invariant.1 c.if-marks-at.false,
)

pub returns : goal.returns
returns c = (
  λ e. cc,
  λ met.
      absurd
      (clear_long c.args.parents.now c.args.marks.now c.args.from c.requires.within c.requires.known
      (λ k yes m less. c.loop.invariant.2 k yes m (omega (arith, less, c.loop-test.false, c.loop.auto.counter-end))) met),
)
