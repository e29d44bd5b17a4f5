use Rattle.std.proofs.Common.{◌≡◌, ◌<◌, length}
use mathlib.Core.Path.{subst}
use Rattle.grd_base.specs.Counts.{MoreThan}
use Rattle.strips_model.specs.Reached.{IsReachedFor}
use Rattle.plain_search.proofs.WitnessLemmas.{reached_within}
use Rattle.plain_search.proofs.common.layers_for.Goals as goal

pub returns-in-Err-TooManyStates-clause-many : goal.returns-in-Err-TooManyStates-clause-many
returns-in-Err-TooManyStates-clause-many g c = λ other e.
    let same : c.args.goal ≡ other = cc in
    subst (λ x. (x.0 < length c.args.moves.now.goals) × MoreThan c.args.limit (IsReachedFor c.args.moves.now x)) same
    (c.requires.goal, reached_within c.args.moves.now c.args.goal c.args.cost c.args.limit c.requires.cost (c.in-Err-TooManyStates.ensures.many cc))
