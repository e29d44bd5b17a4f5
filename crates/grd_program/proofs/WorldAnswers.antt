-- What is right for the task of a world is right for the world: both have the same plans.
use Rattle.std.proofs.Common.{ℕ, List, [], length, Option, Result, Ok, Err, subst}
use Rattle.std.specs.Prelude.{IfErr}
use Rattle.grd_base.specs.declared.ids.ActionId.{ActionId}
use Rattle.strips_model.specs.Values.{PlainWitness}
use Rattle.strips_model.specs.Answers.{IsRightWcdAmong, AreRightAmong}
use Rattle.strips_model.specs.Common.{AreRight, IsRightWcd}
use Rattle.strips_model.specs.Plans.{IsPlan}
use Rattle.strips_model.proofs.PlanTransfer.{Same, turned, all_right_same, right_wcd_same}
use Rattle.strips_model.proofs.WorldLemmas.{plans_same}
use Rattle.type_check.specs.Values.{PlainTyped, PlainGroundAtom}
use Rattle.type_check.specs.Typing.{IsTypedTask}
use Rattle.ground_all.specs.Grounding.{ground_world, ground_task}
use Rattle.ground_all.proofs.WorldLaws.{world_is}
use Rattle.grd_program.specs.declared.question.Question.{Question}
use Rattle.grd_program.specs.declared.status.Status.{Status}
use Rattle.grd_program.specs.declared.status.Status.TheVariants.{Done, Refused, Usage, Limit, ReadFailed, WriteFailed, OutOfMemory}
use Rattle.grd_program.specs.declared.status.LimitFault.TheVariants.{States}
use Rattle.grd_program.specs.Causes.{HasFew}
use Rattle.grd_program.specs.Runs.{plans_in, HasSearchCause, HasAnswerCause}
use Rattle.grd_program.proofs.CompleteLemmas.{goals_many}

module _ (typed : PlainTyped) (goals : List (List PlainGroundAtom)) (task : IsTypedTask typed) where
  -- the plans of the task are those of the world
  of_world : Same (IsPlan (ground_task typed goals)) (plans_in typed goals)
  of_world = turned (plans_in typed goals) (IsPlan (ground_task typed goals)) (plans_same (ground_world typed goals) (world_is typed goals))

  pub right_in_world : (found : List (Option (List ActionId))) → AreRight (ground_task typed goals) [] found → AreRightAmong (plans_in typed goals) (length goals) [] found
  right_in_world found are =
      subst (λ many. AreRightAmong (plans_in typed goals) many [] found) (goals_many typed goals)
      (all_right_same (IsPlan (ground_task typed goals)) (plans_in typed goals) of_world (length (ground_task typed goals).goals) [] found are)

  pub wcd_in_world : (wcd : Option PlainWitness) → IsRightWcd (ground_task typed goals) [] wcd → IsRightWcdAmong (plans_in typed goals) [] wcd
  wcd_in_world wcd is = right_wcd_same (IsPlan (ground_task typed goals)) (plans_in typed goals) of_world [] wcd is

-- why a search has no answer over a world that is small enough is why there is no answer over it
pub answer_cause : (question : Question) (states : ℕ) (typed : PlainTyped) (goals : List (List PlainGroundAtom)) → HasFew typed → (status : Status)
    → HasSearchCause question states (ground_task typed goals) status → HasAnswerCause question states typed goals status
answer_cause question states typed goals few (Limit (States g limit)) h = (few, h)
answer_cause question states typed goals few OutOfMemory h = tt
answer_cause question states typed goals few Done h = absurd h
answer_cause question states typed goals few (Refused refusal) h = absurd h
answer_cause question states typed goals few (Usage fault) h = absurd h
answer_cause question states typed goals few (ReadFailed role) h = absurd h
answer_cause question states typed goals few (WriteFailed target) h = absurd h

pub err_more : {V : Type 0} (P Q : Status → Type 0) (result : Result V Status) → ((status : Status) → P status → Q status) → IfErr result P → IfErr result Q
err_more P Q (Ok value) more h = tt
err_more P Q (Err status) more h = more status h
