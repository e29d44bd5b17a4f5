use Rattle.std.proofs.Common.{rules}
use Rattle.optimal_search.proofs.KeptLemmas.{both_from, bare_from, all_had}
use Rattle.optimal_search.proofs.kept.Kept.keep.Goals as goal

pub returns-in_err-enter_all-clause-made : goal.returns-in_err-enter_all-clause-made
returns-in_err-enter_all-clause-made g c = bare_from _ _ c.args.rows.items (rw c.deref.ensures.value at c.in_err-enter_all.ensures.made)

pub raise_all-requires : goal.raise_all-requires
raise_all-requires g c = (search rules, (search rules, (c.requires.width, rw c.deref.ensures.value at c.in_ok-enter_all.ensures.entered)))

pub returns-clause-made : goal.returns-clause-made
returns-clause-made g c = both_from _ _ _ c.args.rows.items (rw c.deref.ensures.value at c.in_ok-enter_all.ensures.made) c.raise_all.ensures.made (all_had _ c.args.rows.items c.raise_all.ensures.held)

pub returns-clause-held : goal.returns-clause-held
returns-clause-held g c = all_had _ c.args.rows.items c.raise_all.ensures.held
