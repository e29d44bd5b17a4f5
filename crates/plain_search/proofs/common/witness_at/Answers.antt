use Rattle.std.proofs.Common.{◌≡◌, length, refl, sym, ◌∙◌, ap, arith, rules}
use mathlib.Core.Path.{subst}
use Rattle.grd_base.specs.declared.ids.GoalId.{GoalId}
use Rattle.strips_model.specs.Agents.{BeginsWith}
use Rattle.plain_search.specs.Walks.{visits}
use Rattle.plain_search.proofs.LiveLemmas.{depth_is}
use Rattle.plain_search.proofs.CommonLemmas.{greatest}
use Rattle.plain_search.proofs.common.witness_at.Goals as goal

pub complete-requires : goal.complete-requires
complete-requires g c =
    let two = c.requires.two in (
      search rules,
      (
        c.requires.width,
        (
          c.requires.atoms,
          (
            omega arith,
            (
              c.requires.deep,
              (
                c.requires.known,
                (
                  λ path ways. c.as_slice.ensures.value ∙ c.in-Ok.ensures.way path ways,
                  (two.state, two.depth, two.here, two.first),
                ),
              ),
            ),
          ),
        ),
      ),
    )

pub complete-requires-2 : goal.complete-requires-2
complete-requires-2 g c =
    let two = c.requires.two in (
      search rules,
      (
        c.requires.width,
        (
          c.requires.atoms,
          (
            omega arith,
            (
              c.requires.deep,
              (
                c.requires.known,
                (
                  λ path ways. c.as_slice-2.ensures.value ∙ c.in-Ok.ensures.way path ways,
                  (two.state, two.depth, two.here, two.second),
                ),
              ),
            ),
          ),
        ),
      ),
    )

pub returns-clause-greatest : goal.returns-clause-greatest
returns-clause-greatest g c =
    let two = c.requires.two in
    let layered = c.requires.deep.layered in
    let vs = visits c.args.layers.now.visited in
    let depths = c.args.layers.now.depths.items in
    let prefix = c.in-Ok.prefix.items in
    let deep : two.depth ≡ length prefix =
    depth_is c.args.moves.now vs depths c.requires.deep c.args.shared.place two.state two.depth two.here ∙ ap length (sym (c.in-Ok.ensures.way layered.path layered.ways)) in
    let first = subst (λ p. BeginsWith c.in_ok-first.first.items p) c.as_slice.ensures.value c.in_ok-first.ensures.begins in
    let second = subst (λ p. BeginsWith c.in_ok-second.second.items p) c.as_slice-2.ensures.value c.in_ok-second.ensures.begins in (
      (
        c.args.shared.first,
        c.args.shared.second,
        prefix,
        refl,
        record {
          different = λ same. absurd (omega (arith, ap (λ (x : GoalId). x.0) same, two.rise));
          first = (c.in_ok-first.first.items, c.in_ok-first.ensures.least, first);
          second = (c.in_ok-second.second.items, c.in_ok-second.ensures.least, second);
        },
      ),
      λ i j q common.
          omega (arith, greatest c.args.moves.now vs depths c.requires.deep c.args.shared.place two.state two.depth two.here c.requires.last i j q common),
    )
