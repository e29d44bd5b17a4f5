-- The table is that of the goal's verdict.
use Rattle.std.proofs.Common.{ap, sym, ◌∙◌}
use Rattle.std.specs.Prelude.{Some}
use Rattle.std.proofs.lemmas.Option.{slice_get-get_or}
use Rattle.planning_tests.proofs.verdicts.is.Goals as goal

pub is_table-requires-clause-rows : goal.is_table-requires-clause-rows
is_table-requires-clause-rows c =
    let one = c.in-Some-No.field-0.now in
    let a = c.in-Some-No.ensures.lookup in
    c.requires.over c.args.goal.0 c.in-Some-No.table
    (slice_get-get_or c.args.found.now c.args.goal.0 one a.3.0 ∙ ap Some (sym a.1 ∙ c.in-Some-No.field-0-is))
