-- An answer comes where its causes are excluded.
use Rattle.std.proofs.Common.{◌≡◌, ◌≢◌, ℕ, ◌^◌, ◌<◌, ◌≤◌, List, length, Bool, Some, refl, sym, subst, inl, inr, arith}
use Rattle.std.proofs.lemmas.List.{length-map}
use Rattle.grd_base.specs.declared.ids.GoalId.{GoalId}
use Rattle.grd_base.specs.declared.roles.FileRole.TheVariants.{Domain, Problem, Goals, Observations, Certificate, Steps}
use Rattle.grd_io.specs.Bytes.{Told, IsLongerFile}
use Rattle.grd_io.specs.Causes.{Rose}
use Rattle.strips_model.specs.Worlds.{goal_of}
use Rattle.grd_base.specs.Counts.{MoreThan}
use Rattle.pddl_reader.specs.Values.{PlainDomain, PlainProblem}
use Rattle.pddl_reader.specs.Spelling.{IsDomainText, IsProblemText}
use Rattle.type_check.specs.Values.{PlainTyped, PlainGroundAtom, is_same_atom}
use Rattle.type_check.specs.Rules.{IsWellTyped}
use Rattle.type_check.specs.Typing.{IsTyped}
use Rattle.type_check.specs.declared.faults.TypeFault.{TypeFault}
use Rattle.goal_files.specs.declared.faults.GoalFault.{GoalFault}
use Rattle.ground_all.specs.Grounding.{world_of, ground_world, ground_task}
use Rattle.ground_all.specs.declared.faults.GroundFault.{GroundFault}
use Rattle.ground_all.specs.declared.faults.GroundFault.TheVariants.{TooManyAtoms, TooManyActions, OutOfMemory as CountMemory}
use Rattle.grd_program.specs.declared.status.Status.{Status}
use Rattle.grd_program.specs.declared.status.Status.TheVariants.{Done, Refused, Usage, Limit, ReadFailed, WriteFailed, OutOfMemory}
use Rattle.grd_program.specs.declared.status.Refusal.{Refusal}
use Rattle.grd_program.specs.declared.status.Refusal.TheVariants.{TooLong, Pddl, Typing, Goals as OfGoals, Count}
use Rattle.grd_program.specs.declared.status.LimitFault.TheVariants.{States}
use Rattle.grd_program.specs.declared.status.Target.TheVariants.{Output, Certificate as ToCertificate}
use Rattle.command_words.specs.declared.command.Command.{Command}
use Rattle.command_words.specs.declared.command.Command.TheVariants.{Cost, Wcd, Show}
use Rattle.grd_program.specs.declared.question.Question.{Question}
use Rattle.grd_program.specs.declared.question.Question.TheVariants.{Costs, Wcd as OfWcd}
use Rattle.command_words.specs.Commands.{PlainJob, Reads}
use Rattle.grd_program.specs.Statuses.{IsPlainRefusal, IsPlainStatus}
use Rattle.grd_program.specs.Causes.{HasText, FailsDomain, FailsProblem, HasFew, HasCountCause, SpellsOnlyGoals, HasOnlyFault}
use Rattle.grd_program.specs.Runs.{SpellsOnly, TakesTexts, TakesTyped, TakesGoals, ReadsOnly, HasTexts, HasNoFault, CanReport, CanAnswer, HasTextsCause, HasTypedCause, HasFilesCause, HasCommandCause, HasCause, MayBecome, CountsFor, MeetsLimit, IsComplete}

-- the value that a file spells is the one that was taken
taken : {V : Type 0} (Spells : List ℕ → V → Type 0) (told : Told) (text : List ℕ) (x y : V)
    → told ≡ Some (Some text) → Spells text x → HasText told (SpellsOnly Spells y) → x ≡ y
taken Spells told text x y there spelled has =
    (subst (λ t. HasText t (SpellsOnly Spells y)) there has).1.1 x spelled

-- a file of the text is not longer
short_file : (told : Told) (text : List ℕ) (limit : ℕ) → told ≡ Some (Some text) → length text ≤ 2 ^ 20 → limit ≡ 2 ^ 20 → IsLongerFile told limit → ⊥
short_file told text limit there short is longer =
    let more : limit < length text = subst (λ t. IsLongerFile t limit) there longer in
    omega (arith, is, short, more)

-- as many goals of a task as of its world
pub goals_many : (typed : PlainTyped) (goals : List (List PlainGroundAtom)) → length (ground_task typed goals).goals ≡ length goals
unfolding ground_world
goals_many typed goals = length-map goals (goal_of is_same_atom (world_of typed goals))

-- a world that is small enough is not too large
no_count : (typed : PlainTyped) (fault : GroundFault) → HasFew typed → HasCountCause typed (Refused (Count fault)) → ⊥
no_count typed (TooManyAtoms count) few h = omega (arith, few.atoms, h.0, h.1)
no_count typed (TooManyActions count) few h = omega (arith, few.actions, h.1, h.2)
no_count typed CountMemory few h = h

module _ (told : List ℕ → Told) (before now : List ℕ → Bool → ℕ) (job : PlainJob) (ob on : ℕ) where
  -- the domain and the problem that the files spell are those that were taken
  same_domain : (d e : PlainDomain) (p q : PlainProblem) → HasTexts told job d p → TakesTexts told job e q → d ≡ e
  same_domain d e p q w takes = taken IsDomainText (told job.domain) w.domain_bytes d e w.domain_there w.is_domain takes.takes_domain

  same_problem : (d e : PlainDomain) (p q : PlainProblem) → HasTexts told job d p → TakesTexts told job e q → p ≡ q
  same_problem d e p q w takes = taken IsProblemText (told job.problem) w.problem_bytes p q w.problem_there w.is_problem takes.takes_problem

  -- where the domain and the problem are spelled, neither is the cause
  texts_complete : (d : PlainDomain) (p : PlainProblem) → HasTexts told job d p → HasNoFault before now job ob on
      → (s : Status) → HasTextsCause told before now job s → s ≡ OutOfMemory
  texts_complete d p w f Done h = absurd h
  texts_complete d p w f (Usage fault) h = absurd h
  texts_complete d p w f (Refused (TooLong Domain limit)) h =
      absurd (short_file (told job.domain) w.domain_bytes limit w.domain_there w.domain_short h.0 h.2)
  texts_complete d p w f (Refused (TooLong Problem limit)) h =
      absurd (short_file (told job.problem) w.problem_bytes limit w.problem_there w.problem_short h.0 h.4)
  texts_complete d p w f (Refused (TooLong Goals limit)) h = absurd h
  texts_complete d p w f (Refused (TooLong Observations limit)) h = absurd h
  texts_complete d p w f (Refused (TooLong Certificate limit)) h = absurd h
  texts_complete d p w f (Refused (TooLong Steps limit)) h = absurd h
  texts_complete d p w f (Refused (Pddl Domain fault)) h =
      absurd ((subst (λ t. HasText t (FailsDomain fault)) w.domain_there h.2).1.no_domain d w.is_domain)
  texts_complete d p w f (Refused (Pddl Problem fault)) h =
      absurd ((subst (λ t. HasText t (FailsProblem fault)) w.problem_there h.4).1.no_problem p w.is_problem)
  texts_complete d p w f (Refused (Pddl Goals fault)) h = absurd h
  texts_complete d p w f (Refused (Pddl Observations fault)) h = absurd h
  texts_complete d p w f (Refused (Pddl Certificate fault)) h = absurd h
  texts_complete d p w f (Refused (Pddl Steps fault)) h = absurd h
  texts_complete d p w f (Refused (Typing fault)) h = absurd h
  texts_complete d p w f (Refused (OfGoals fault)) h = absurd h
  texts_complete d p w f (Refused (Count fault)) h = absurd h
  texts_complete d p w f (Limit fault) h = absurd h
  texts_complete d p w f (ReadFailed Domain) h = absurd (f.reads_domain h.rose)
  texts_complete d p w f (ReadFailed Problem) h = absurd (f.reads_problem h.1.rose)
  texts_complete d p w f (ReadFailed Goals) h = absurd h
  texts_complete d p w f (ReadFailed Observations) h = absurd h
  texts_complete d p w f (ReadFailed Certificate) h = absurd h
  texts_complete d p w f (ReadFailed Steps) h = absurd h
  texts_complete d p w f (WriteFailed target) h = absurd h
  texts_complete d p w f OutOfMemory h = refl

  module _ (question : Question) where
    as_texts : (can : CanReport question told before now job ob on) (s : Status) → HasTextsCause told before now job s → s ≡ OutOfMemory
    as_texts can = texts_complete can.world.domain can.world.problem can.world.texts can.no_fault

    -- nor is their typing, where a report can be made
    typing_complete : (can : CanReport question told before now job ob on) (fault : TypeFault) → HasTypedCause told before now job (Refused (Typing fault)) → ⊥
    typing_complete can fault h =
        h.4.not_typed (subst (λ q. IsWellTyped h.1 q) (same_problem can.world.domain h.1 can.world.problem h.2 can.world.texts h.3)
        (subst (λ d. IsWellTyped d can.world.problem) (same_domain can.world.domain h.1 can.world.problem h.2 can.world.texts h.3) can.world.are_typed.well_typed))

    -- what they make is what was taken
    same_typed : (can : CanReport question told before now job ob on) (typed : PlainTyped) → TakesTyped told job typed → typed ≡ can.typed
    same_typed can typed takes =
        sym (takes.only can.typed
        (subst (λ q. IsTyped takes.domain q can.typed) (same_problem can.world.domain takes.domain can.world.problem takes.problem can.world.texts takes.texts)
        (subst (λ d. IsTyped d can.world.problem can.typed) (same_domain can.world.domain takes.domain can.world.problem takes.problem can.world.texts takes.texts)
        can.world.are_typed.made)))

    -- and so are the goals
    same_goals : (can : CanReport question told before now job ob on) (goals : List (List PlainGroundAtom)) → TakesGoals told job.goals can.typed goals → goals ≡ can.goals
    same_goals can goals takes =
        sym ((subst (λ t. HasText t (λ text. SpellsOnlyGoals can.typed text goals)) can.world.goals_there takes).1.only can.goals can.world.gives)

    goals_complete : (can : CanReport question told before now job ob on) (fault : GoalFault) → HasText (told job.goals) (λ text. HasOnlyFault can.typed text fault) → ⊥
    goals_complete can fault h =
        (subst (λ t. HasText t (λ text. HasOnlyFault can.typed text fault)) can.world.goals_there h).1.no_goals can.goals can.world.gives

    limit_complete : (can : CanReport question told before now job ob on) (g : GoalId) (limit : ℕ) → MeetsLimit question job.limits.states (ground_task can.typed can.goals) g limit → ⊥
    limit_complete can g limit meets =
        can.few_states g (omega (arith, meets.0, goals_many can.typed can.goals))
        (subst (λ n. MoreThan n (CountsFor question (ground_task can.typed can.goals) g)) meets.1 meets.2)

    -- nor is one of the three files, nor the world that they spell
    files_complete : CanReport question told before now job ob on → (s : Status) → HasFilesCause question told before now job s → s ≡ OutOfMemory
    files_complete can Done h = absurd h
    files_complete can (Usage fault) h = absurd h
    files_complete can (Refused (TooLong Domain limit)) h = as_texts can (Refused (TooLong Domain limit)) h
    files_complete can (Refused (TooLong Problem limit)) h = as_texts can (Refused (TooLong Problem limit)) h
    files_complete can (Refused (TooLong Goals limit)) h =
        absurd (short_file (told job.goals) can.world.goals_bytes limit can.world.goals_there can.world.goals_short h.0 h.4)
    files_complete can (Refused (TooLong Observations limit)) h = absurd h
    files_complete can (Refused (TooLong Certificate limit)) h = absurd h
    files_complete can (Refused (TooLong Steps limit)) h = absurd h
    files_complete can (Refused (Pddl Domain fault)) h = as_texts can (Refused (Pddl Domain fault)) h
    files_complete can (Refused (Pddl Problem fault)) h = as_texts can (Refused (Pddl Problem fault)) h
    files_complete can (Refused (Pddl Goals fault)) h = absurd h
    files_complete can (Refused (Pddl Observations fault)) h = absurd h
    files_complete can (Refused (Pddl Certificate fault)) h = absurd h
    files_complete can (Refused (Pddl Steps fault)) h = absurd h
    files_complete can (Refused (Typing fault)) h = absurd (typing_complete can fault h)
    files_complete can (Refused (OfGoals fault)) h =
        absurd (goals_complete can fault (subst (λ t. HasText (told job.goals) (λ text. HasOnlyFault t text fault)) (same_typed can h.2 h.3) h.4))
    files_complete can (Refused (Count fault)) h =
        absurd (no_count can.typed fault can.few (subst (λ t. HasCountCause t (Refused (Count fault))) (same_typed can h.1 h.3.takes_typed) h.4))
    files_complete can (Limit (States g limit)) h =
        let same : h.1 ≡ can.typed = same_typed can h.1 h.3.takes_typed in
        let all : h.2 ≡ can.goals = same_goals can h.2 (subst (λ t. TakesGoals told job.goals t h.2) same h.3.takes_goals) in
        absurd (limit_complete can g limit
        (subst (λ gs. MeetsLimit question job.limits.states (ground_task can.typed gs) g limit) all
        (subst (λ t. MeetsLimit question job.limits.states (ground_task t h.2) g limit) same h.4.1)))
    files_complete can (ReadFailed Domain) h = as_texts can (ReadFailed Domain) h
    files_complete can (ReadFailed Problem) h = as_texts can (ReadFailed Problem) h
    files_complete can (ReadFailed Goals) h = absurd (can.reads_goals h.1.rose)
    files_complete can (ReadFailed Observations) h = absurd h
    files_complete can (ReadFailed Certificate) h = absurd h
    files_complete can (ReadFailed Steps) h = absurd h
    files_complete can (WriteFailed target) h = absurd h
    files_complete can OutOfMemory h = refl

  -- nor is any of its command's, where a command has all that it needs
  command_complete : (command : Command) → CanAnswer command told before now job ob on → (s : Status) → HasCommandCause command told before now job s → s ≡ OutOfMemory
  command_complete Cost can s h = files_complete Costs can s h
  command_complete Wcd can s h = files_complete OfWcd can s h
  command_complete Show can s h = texts_complete can.domain can.problem can.texts can.no_fault s h

-- the job of the cause is the one for which the words ask
asked_complete : (told : List ℕ → Told) (before now : List ℕ → Bool → ℕ) (words : List (List ℕ)) (ob on : ℕ) (s : Status) (job found : PlainJob) → Reads words job
    → CanAnswer job.command told before now job ob on → ReadsOnly words found → HasCommandCause found.command told before now found s → s ≡ OutOfMemory
asked_complete told before now words ob on s job found reads can only h =
    command_complete told before now job ob on job.command can s
    (subst (λ j. HasCommandCause j.command told before now j s) (sym (only.only job reads)) h)

-- no count of a job rose where its command can answer
no_write : (told : List ℕ → Told) (before now : List ℕ → Bool → ℕ) (job : PlainJob) (ob on : ℕ) (command : Command) → CanAnswer command told before now job ob on → Rose ob on → ⊥
no_write told before now job ob on Cost can rose = can.no_fault.writes rose
no_write told before now job ob on Wcd can rose = can.no_fault.writes rose
no_write told before now job ob on Show can rose = can.no_fault.writes rose

pub complete : (told : List ℕ → Told) (before now : List ℕ → Bool → ℕ) (words : List (List ℕ)) (ob on : ℕ) (s : Status)
    → HasCause told before now words ob on s → IsComplete told before now words ob on s
complete told before now words ob on Done h job reads can = inl refl
complete told before now words ob on (Usage fault) h job reads can = absurd (h.1.no_job job reads)
complete told before now words ob on (WriteFailed Output) h job reads can = absurd (no_write told before now job ob on job.command can h.1)
complete told before now words ob on (WriteFailed ToCertificate) h job reads can = absurd h
complete told before now words ob on OutOfMemory h job reads can = inr refl
complete told before now words ob on (Refused refusal) h job reads can = inr (asked_complete told before now words ob on (Refused refusal) job h.0 reads can h.1 h.2)
complete told before now words ob on (Limit fault) h job reads can = inr (asked_complete told before now words ob on (Limit fault) job h.0 reads can h.1 h.2)
complete told before now words ob on (ReadFailed role) h job reads can = inr (asked_complete told before now words ob on (ReadFailed role) job h.0 reads can h.1 h.2)

-- a cause has no want of memory inside a refusal
plain_count : (typed : PlainTyped) (fault : GroundFault) → HasCountCause typed (Refused (Count fault)) → fault ≢ CountMemory
plain_count typed (TooManyAtoms count) h = λ e. cc
plain_count typed (TooManyActions count) h = λ e. cc
plain_count typed CountMemory h = absurd h

module _ (told : List ℕ → Told) (before now : List ℕ → Bool → ℕ) (job : PlainJob) where
  plain_texts : (refusal : Refusal) → HasTextsCause told before now job (Refused refusal) → IsPlainRefusal refusal
  plain_texts (TooLong role limit) h = tt
  plain_texts (Pddl Domain fault) h = h.0
  plain_texts (Pddl Problem fault) h = h.0
  plain_texts (Pddl Goals fault) h = absurd h
  plain_texts (Pddl Observations fault) h = absurd h
  plain_texts (Pddl Certificate fault) h = absurd h
  plain_texts (Pddl Steps fault) h = absurd h
  plain_texts (Typing fault) h = tt
  plain_texts (OfGoals fault) h = absurd h
  plain_texts (Count fault) h = absurd h

  plain_files : (question : Question) (refusal : Refusal) → HasFilesCause question told before now job (Refused refusal) → IsPlainRefusal refusal
  plain_files question (TooLong role limit) h = tt
  plain_files question (Pddl role fault) h = plain_texts (Pddl role fault) h
  plain_files question (Typing fault) h = tt
  plain_files question (OfGoals fault) h = h.0
  plain_files question (Count fault) h = plain_count h.1 fault h.4

  plain_command : (command : Command) (refusal : Refusal) → HasCommandCause command told before now job (Refused refusal) → IsPlainRefusal refusal
  plain_command Cost refusal h = plain_files Costs refusal h
  plain_command Wcd refusal h = plain_files OfWcd refusal h
  plain_command Show refusal h = plain_texts refusal h

plain_cause : (told : List ℕ → Told) (before now : List ℕ → Bool → ℕ) (words : List (List ℕ)) (ob on : ℕ) (s : Status)
    → HasCause told before now words ob on s → IsPlainStatus s
plain_cause told before now words ob on Done h = tt
plain_cause told before now words ob on (Refused refusal) h = plain_command told before now h.0 h.0.command refusal h.2
plain_cause told before now words ob on (Usage fault) h = tt
plain_cause told before now words ob on (Limit fault) h = tt
plain_cause told before now words ob on (ReadFailed role) h = tt
plain_cause told before now words ob on (WriteFailed target) h = tt
plain_cause told before now words ob on OutOfMemory h = tt

-- a cause stays where a status may become another
pub cause_kept : (told : List ℕ → Told) (before now : List ℕ → Bool → ℕ) (words : List (List ℕ)) (ob on : ℕ) (s r : Status)
    → MayBecome s r → HasCause told before now words ob on s → HasCause told before now words ob on r
cause_kept told before now words ob on Done r kept h = subst (HasCause told before now words ob on) (sym kept) h
cause_kept told before now words ob on (WriteFailed target) r kept h = subst (HasCause told before now words ob on) (sym kept) h
cause_kept told before now words ob on (Refused refusal) r (inl same) h = subst (HasCause told before now words ob on) (sym same) h
cause_kept told before now words ob on (Refused refusal) r (inr memory) h = subst (HasCause told before now words ob on) (sym memory) tt
cause_kept told before now words ob on (Usage fault) r (inl same) h = subst (HasCause told before now words ob on) (sym same) h
cause_kept told before now words ob on (Usage fault) r (inr memory) h = subst (HasCause told before now words ob on) (sym memory) tt
cause_kept told before now words ob on (Limit fault) r (inl same) h = subst (HasCause told before now words ob on) (sym same) h
cause_kept told before now words ob on (Limit fault) r (inr memory) h = subst (HasCause told before now words ob on) (sym memory) tt
cause_kept told before now words ob on (ReadFailed role) r (inl same) h = subst (HasCause told before now words ob on) (sym same) h
cause_kept told before now words ob on (ReadFailed role) r (inr memory) h = subst (HasCause told before now words ob on) (sym memory) tt
cause_kept told before now words ob on OutOfMemory r (inl same) h = subst (HasCause told before now words ob on) (sym same) h
cause_kept told before now words ob on OutOfMemory r (inr memory) h = subst (HasCause told before now words ob on) (sym memory) tt

-- so no want of memory stands inside a refusal
pub plain_end : (told : List ℕ → Told) (before now : List ℕ → Bool → ℕ) (words : List (List ℕ)) (ob on : ℕ) (s r : Status)
    → MayBecome s r → HasCause told before now words ob on s → IsPlainStatus r
plain_end told before now words ob on s r kept h = plain_cause told before now words ob on r (cause_kept told before now words ob on s r kept h)
