use Rattle.std.proofs.Common.{rules, arith}
use Rattle.optimal_search.proofs.KeptLemmas.{next_entered, taken_more, all_taken}
use Rattle.optimal_search.proofs.kept.Kept.raise_all.Goals as goal

pub raise-requires : goal.raise-requires
raise-requires g c =
    (search rules, (search rules, (c.requires.width, next_entered _ _ c.args.rows.items c.loop-row.row-iterator.rest.items _ c.in-Some.row c.requires.entered c.loop-row.invariant c.in-Some.ensures.steps.0)))

pub loop-row-preserved : goal.loop-row-preserved
loop-row-preserved g c =
    taken_more _ _ _ c.args.rows.items c.loop-row.row-iterator.rest.items _ c.in-Some.row c.loop-row.invariant c.in-Some.ensures.steps.0 c.raise.ensures.made c.raise.ensures.grows c.raise.ensures.held

pub returns-clause-held : goal.returns-clause-held
returns-clause-held g c = all_taken _ _ c.args.rows.items c.loop-row.row-iterator.rest.items c.loop-row.invariant (omega (arith, c.in-None.ensures.steps))
