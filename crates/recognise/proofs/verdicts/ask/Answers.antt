-- What the oracle of the observed task answers from its start within the cost.
use Rattle.std.proofs.Common.{map, ap, ◌∙◌}
use Rattle.grd_base.specs.declared.limits.Bound.TheVariants.{Steps}
use Rattle.grd_base.specs.Bits.{members}
use Rattle.strips_model.specs.Observed.{read_as}
use Rattle.optimal_search.proofs.AskLaws.{passed_on}
use Rattle.recognise.proofs.VerdictLemmas.{yes_right, found_plan, many_near, no_right}
use Rattle.recognise.proofs.verdicts.ask.Goals as goal

pub returns-in_err-path-clause-many : goal.returns-in_err-path-clause-many
returns-in_err-path-clause-many g c = λ e.
    let x = c.args.oracle.now in
    let error = c.from_residual in
    many_near c.args.task.now c.args.observations.now x c.requires.made c.requires.removed (members c.args.first.now) c.requires.first c.args.cost c.requires.cost x.limit
    (c.in_err-path.ensures.many (passed_on error.result _ _ error.ensures.1 e))

pub returns-in_ok-read-in-Some-clause-right : goal.returns-in_ok-read-in-Some-clause-right
returns-in_ok-read-in-Some-clause-right g c =
    let t = c.args.task.now in
    let os = c.args.observations.now in
    let x = c.args.oracle.now in
    let p = c.in-Some.path.items in
    let found = rw c.in-Some.is at c.in_ok-path.ensures.path in
    let plan = found_plan t os x c.requires.made c.requires.removed (members c.args.first.now) c.requires.first p found.0 in
    yes_right t os x.goal c.args.cost c.requires.cost p c.in_ok-read-in-Some.field-0.items
    (c.in_ok-read-in-Some.ensures ∙ ap (map (read_as t os)) c.as_slice.ensures.value) found.1 (c.plans_embed.ensures.sound t os x.goal p c.known_task.ensures plan)

pub returns-in_ok-table-in-None-clause-right : goal.returns-in_ok-table-in-None-clause-right
returns-in_ok-table-in-None-clause-right g c =
    let t = c.args.task.now in
    let os = c.args.observations.now in
    let x = c.args.oracle.now in
    let s = members c.args.first.now in
    no_right t os x c.requires.made c.requires.removed s c.requires.first c.args.cost c.requires.cost c.within.new.self c.in_ok-table-in-None.field-0
    c.within.ensures.alike c.in_ok-table-in-None.ensures.valid c.in_ok-table-in-None.ensures.over (c.in_ok-table-in-None.ensures.rows s (Steps c.args.cost) (rw c.in-None.is at c.in_ok-path.ensures.bound))
    (rw c.in-None.is at c.in_ok-path.ensures.none) (c.plans_embed.ensures.recognised t os x.goal c.args.cost c.known_task.ensures c.requires.cost)
