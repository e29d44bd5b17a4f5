use Rattle.std.proofs.Common.{◌≡◌, ◌+◌, ◌-◌, arith, rules}
use mathlib.Core.Path.{subst}
use Rattle.plain_search.specs.Walks.{visits}
use Rattle.plain_search.specs.Live.{IsLiveFrom}
use Rattle.plain_search.proofs.live.last_shared.Goals as goal

pub settle-requires : goal.settle-requires
settle-requires g c =
    let vs = visits c.args.layers.now.visited in
    let depths = c.args.layers.now.depths.items in
    let same : c.loop-place.place ≡ c.loop-place.place - 1 + 1 = omega arith in (
      search rules,
      (
        c.requires.width,
        (
          c.requires.atoms,
          (
            c.requires.costs,
            (
              c.requires.deep,
              (
                search rules,
                (subst (λ n. IsLiveFrom c.args.moves.now vs depths n c.loop-place.live) same c.loop-place.invariant.known, λ k s d low. c.loop-place.invariant.few k s d (omega arith)),
              ),
            ),
          ),
        ),
      ),
    )

pub returns-in-Some-clause-last : goal.returns-in-Some-clause-last
returns-in-Some-clause-last g c k s d low = c.loop-place.invariant.few k s d (omega arith)

pub returns-clause-none : goal.returns-clause-none
returns-clause-none g c k s d low = c.loop-place.invariant.few k s d (omega arith)
