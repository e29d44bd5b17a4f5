use Rattle.std.proofs.Common.{◌≡◌, Some, sym, ◌∙◌, ap}
use Rattle.std.specs.Option.{option_map}
use Rattle.grd_base.specs.Bits.{members}
use Rattle.strips_model.specs.Plans.{step}
use Rattle.plain_search.specs.Walks.{visits}
use Rattle.plain_search.proofs.LiveLemmas.{found_at, leads_deeper, leads_no_deeper}
use Rattle.plain_search.proofs.live.next_place.Goals as goal

pub returns-then-index-depth-clause-found : goal.returns-then-index-depth-clause-found
returns-then-index-depth-clause-found g c =
    let vs = visits c.args.layers.now.visited in
    let depths = c.args.layers.now.depths.items in
    let to : step c.args.task.now (members c.args.from.now) c.args.a ≡ Some (members c.in_ok-next.next) = sym c.advance.ensures ∙ ap (option_map members) c.in_ok-next.was in
    let at = found_at vs depths c.in_ok-place.place (members c.in_ok-next.next) c.index.result.now c.in_ok-place.ensures.found c.requires.deep.layered.same_length c.index.ensures in
    leads_deeper c.args.task.now vs depths c.requires.deep (members c.args.from.now) (members c.in_ok-next.next) c.args.depth c.index.result.now c.args.a c.in_ok-place.place
    c.requires.from to at c.if-index-depth.true

pub returns-else-index-depth-clause-none : goal.returns-else-index-depth-clause-none
returns-else-index-depth-clause-none g c =
    let vs = visits c.args.layers.now.visited in
    let depths = c.args.layers.now.depths.items in
    let to : step c.args.task.now (members c.args.from.now) c.args.a ≡ Some (members c.in_ok-next.next) = sym c.advance.ensures ∙ ap (option_map members) c.in_ok-next.was in
    let at = found_at vs depths c.in_ok-place.place (members c.in_ok-next.next) c.index.result.now c.in_ok-place.ensures.found c.requires.deep.layered.same_length c.index.ensures in
    leads_no_deeper c.args.task.now vs depths c.requires.deep (members c.args.from.now) (members c.in_ok-next.next) c.args.depth c.index.result.now c.args.a c.in_ok-place.place
    to at c.if-index-depth.false
