use Rattle.std.proofs.Common.{sym, ◌∙◌, subst}
use Rattle.std.proofs.lemmas.Bool.{false≢true}
use Rattle.design_certificate.proofs.IndexLemmas.{IsSought, sought_none, walk_within, walk_smaller, walk_on}
use Rattle.design_certificate.proofs.index.chain_has.Goals as goal

pub loop-next-smaller : goal.loop-next-smaller
loop-next-smaller c =
    walk_smaller c.args.rows.now c.args.earlier.now c.requires.chained c.loop-next.next c.in-Some.place c.index-rows-place.result c.in-Some.is c.loop-next.invariant.0 c.index-rows-place.is

pub loop-next-preserved : goal.loop-next-preserved
loop-next-preserved c = (
  walk_within c.args.rows.now c.args.earlier.now c.requires.chained c.loop-next.next c.in-Some.place c.index-rows-place.result c.in-Some.is c.loop-next.invariant.0 c.index-rows-place.is,
  λ s d last.
      walk_on c.args.rows.now c.args.earlier.now c.requires.chained c.loop-next.next c.in-Some.place c.index-rows-place.result c.in-Some.is c.loop-next.invariant.0 c.index-rows-place.is
      c.args.wanted.now s d (c.loop-next.invariant.1 s d last) (λ has. false≢true (sym c.if-has_all.false ∙ c.has_all.ensures.1 has)),
)

pub returns : goal.returns
returns c s d last = sought_none c.args.rows.now c.args.wanted.now s d (subst (IsSought c.args.rows.now c.args.wanted.now s d) c.in_default.is (c.loop-next.invariant.1 s d last))
