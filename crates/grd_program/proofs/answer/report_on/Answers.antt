use Rattle.std.proofs.Common.{subst}
use Rattle.grd_program.specs.Runs.{HasSearchCause, HasAnswerCause}
use Rattle.ground_all.specs.Grounding.{ground_task}
use Rattle.grd_program.proofs.WorldAnswers.{answer_cause, err_more}
use Rattle.grd_program.proofs.answer.report_on.Goals as goal

pub returns-clause-cause : goal.returns-clause-cause
returns-clause-cause c =
    let question = c.args.question in
    let states = c.args.states in
    let world = c.in_ok-world.world in
    let made = c.in_ok-world.ensures in
    err_more (HasSearchCause question states (ground_task world.typed world.goals)) (HasAnswerCause question states c.args.typed.now c.args.goals.now) c.report_of.result
    (λ status h. answer_cause question states c.args.typed.now c.args.goals.now made.few status
    (subst (λ t. HasSearchCause question states (ground_task t c.args.goals.now) status) made.typed
    (subst (λ gs. HasSearchCause question states (ground_task world.typed gs) status) made.goals h)))
    c.report_of.ensures.cause
