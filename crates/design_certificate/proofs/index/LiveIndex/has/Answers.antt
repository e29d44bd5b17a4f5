use Rattle.std.proofs.Common.{◌∙◌, subst, List}
use Rattle.std.specs.Prelude.{◌↔◌, IsTrue, Any}
use Rattle.grd_base.specs.Bits.{members}
use Rattle.design_certificate.specs.Live.{PlainLiveRow}
use Rattle.design_certificate.specs.Index.{HasAll}
use Rattle.design_certificate.proofs.IndexLemmas.{last_found, last_within}
use Rattle.design_certificate.proofs.index.LiveIndex.has.Goals as goal

pub chain_has-requires-clause-last : goal.chain_has-requires-clause-last
chain_has-requires-clause-last g c =
    last_within c.self.inside.rows.now c.self.inside.last.entries c.self.inside.earlier.items c.self.invariant.0 (record { state = c.args.s.now; depth = c.args.depth }) c.whole.ensures c.copied-last.result
    (c.copied-last.ensures ∙ c.get.ensures.value)

pub returns : goal.returns
returns g c =
    let last = last_found c.self.inside.rows.now c.self.inside.last.entries c.self.inside.earlier.items c.self.invariant.0 (record { state = c.args.s.now; depth = c.args.depth }) c.whole.ensures c.copied-last.result
    (c.copied-last.ensures ∙ c.get.ensures.value) in
    subst (λ (rows : List PlainLiveRow). IsTrue c.chain_has.result ↔ Any (HasAll c.args.wanted.now (members c.args.s.now) c.args.depth) rows) c.self.view_is
    (c.chain_has.ensures (members c.args.s.now) c.args.depth last)
