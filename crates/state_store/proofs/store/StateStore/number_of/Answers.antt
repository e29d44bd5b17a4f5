use Rattle.grd_base.proofs.SameLemmas.{bits_eq, bits_eq-Decides}
use Rattle.state_store.proofs.StoreLemmas.{numbered_by, store_more}
use Rattle.state_store.proofs.store.StateStore.number_of.Goals as goal

pub invariant_of-self-2 : goal.invariant_of-self-2
invariant_of-self-2 g c =
    store_more c.self.inside.states.keys c.insert_full.new.self.keys c.args.s c.self.invariant c.whole.ensures c.in_ok-n.ensures.keys c.in_ok-n.ensures.unique

pub returns-clause-numbered : goal.returns-clause-numbered
returns-clause-numbered g c = rw (← c.self.view_is) (numbered_by bits_eq bits_eq-Decides _ _ _ _ c.in_ok-n.ensures.keys c.in_ok-n.ensures.index)

pub returns-clause-distinct : goal.returns-clause-distinct
returns-clause-distinct g c = (invariant_of-self-2 g c).distinct
