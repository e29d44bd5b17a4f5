-- What a run of the program does.
use Rattle.std.specs.Prelude.{◌≡◌, ◌≢◌, ℕ, ◌^◌, ◌<◌, ◌≤◌, ◌⊎◌, List, [], ◌++◌, length, take, Bool, false, Option, Some, IfSome}
use Rattle.grd_base.specs.declared.ids.ActionId.{ActionId}
use Rattle.grd_base.specs.declared.ids.GoalId.{GoalId}
use Rattle.grd_base.specs.declared.roles.FileRole.TheVariants.{Domain, Problem, Goals}
use Rattle.grd_io.specs.Bytes.{Told, extended, IsLongerFile}
use Rattle.grd_io.specs.Causes.{Rose}
use Rattle.strips_model.specs.Values.{PlainTask, PlainWitness}
use Rattle.strips_model.specs.Agents.{Plans}
use Rattle.strips_model.specs.Answers.{IsRightWcdAmong, AreRightAmong}
use Rattle.strips_model.specs.WorldPlans.{IsWorldPlan}
use Rattle.grd_base.specs.Counts.{MoreThan}
use Rattle.strips_model.specs.Plans.{State}
use Rattle.strips_model.specs.Reached.{IsReachedFor, IsNear}
use Rattle.pddl_reader.specs.Values.{PlainDomain, PlainProblem}
use Rattle.pddl_reader.specs.Spelling.{IsDomainText, IsProblemText}
use Rattle.type_check.specs.Values.{PlainTyped, PlainGroundAtom}
use Rattle.type_check.specs.Typing.{IsTyped}
use Rattle.goal_files.specs.Goals.{SpellsGoals}
use Rattle.ground_all.specs.Grounding.{ground_world, ground_task}
use Rattle.goal_files.specs.declared.faults.GoalFault.TheVariants.{OutOfMemory as GoalsOutOfMemory}
use Rattle.pddl_print.specs.Canonical.{domain_text, problem_text}
use Rattle.command_words.specs.declared.command.Command.{Command}
use Rattle.command_words.specs.declared.command.Command.TheVariants.{Cost, Wcd, Show}
use Rattle.grd_program.specs.declared.question.Question.{Question}
use Rattle.grd_program.specs.declared.question.Question.TheVariants.{Costs, Wcd as OfWcd}
use Rattle.grd_program.specs.declared.status.Status.{Status}
use Rattle.grd_program.specs.declared.status.Status.TheVariants.{Done, Refused, Usage, Limit, ReadFailed, WriteFailed, OutOfMemory}
use Rattle.grd_program.specs.declared.status.Refusal.TheVariants.{TooLong, Pddl, Typing, Goals as OfGoals, Count}
use Rattle.command_words.specs.declared.faults.UsageFault.{UsageFault}
use Rattle.grd_program.specs.declared.status.LimitFault.TheVariants.{States}
use Rattle.grd_program.specs.declared.status.Target.TheVariants.{Output, Certificate}
use Rattle.command_words.specs.Commands.{PlainJob, Reads, IsUsageFault}
use Rattle.report_text.specs.Reports.{action_names, cost_report, wcd_report}
use Rattle.grd_program.specs.Errors.{error_text}
use Rattle.grd_program.specs.Statuses.{IsPlainFault}
use Rattle.grd_program.specs.Causes.{HasText, IsQuiet, OnlyRose, FailsDomain, FailsProblem, AreTyped, HasTypingCause, SpellsOnlyGoals, HasOnlyFault, HasFew, HasCountCause}

-- the plans of the world of these goals
abbrev pub plans_in : PlainTyped → List (List PlainGroundAtom) → Plans
plans_in typed goals = IsWorldPlan (ground_world typed goals)

-- the text is the report of the costs that were found and of a right wcd
abbrev pub IsWcdReport : PlainTyped → List (List PlainGroundAtom) → List (Option (List ActionId)) → List ℕ → Type 0
IsWcdReport typed goals found text =
    (wcd : Option PlainWitness) × IsRightWcdAmong (plans_in typed goals) [] wcd × (text ≡ wcd_report (action_names typed) found wcd)

-- the text is the report that answers the question with what is right for the goals of this world
abbrev pub IsReportOn : Question → PlainTyped → List (List PlainGroundAtom) → List ℕ → Type 0
IsReportOn Costs typed goals text =
    (found : List (Option (List ActionId))) × AreRightAmong (plans_in typed goals) (length goals) [] found
    × (text ≡ cost_report (action_names typed) found)
IsReportOn OfWcd typed goals text =
    (found : List (Option (List ActionId))) × AreRightAmong (plans_in typed goals) (length goals) [] found
    × IsWcdReport typed goals found text

-- the three texts spell a world with goals: a domain and a problem that are well typed, and goals over them
pub record SpellWorld (domain_text problem_text goals_text : List ℕ) (typed : PlainTyped) (goals : List (List PlainGroundAtom)) : Type 0 where
  pub domain : PlainDomain
  pub problem : PlainProblem
  pub is_domain : IsDomainText domain_text domain
  pub is_problem : IsProblemText problem_text problem
  pub are_typed : AreTyped domain problem typed
  pub gives : SpellsGoals typed goals_text goals

-- the text is the report that answers the question about the world that the three files, of at most 2^20
-- bytes each, spell
pub record IsWorldReport (question : Question) (domain_file problem_file goals_file : Option (List ℕ)) (text : List ℕ) : Type 0 where
  pub domain_text : List ℕ
  pub problem_text : List ℕ
  pub goals_text : List ℕ
  pub domain_there : domain_file ≡ Some domain_text
  pub problem_there : problem_file ≡ Some problem_text
  pub goals_there : goals_file ≡ Some goals_text
  pub domain_short : length domain_text ≤ 2 ^ 20
  pub problem_short : length problem_text ≤ 2 ^ 20
  pub goals_short : length goals_text ≤ 2 ^ 20
  pub typed : PlainTyped
  pub goals : List (List PlainGroundAtom)
  pub spelled : SpellWorld domain_text problem_text goals_text typed goals
  pub report : IsReportOn question typed goals text

-- the text is the canonical text of the domain and of the problem that the two files, of at most 2^20
-- bytes each, spell
pub record IsShownText (domain_file problem_file : Option (List ℕ)) (text : List ℕ) : Type 0 where
  pub domain_bytes : List ℕ
  pub problem_bytes : List ℕ
  pub domain_there : domain_file ≡ Some domain_bytes
  pub problem_there : problem_file ≡ Some problem_bytes
  pub domain_short : length domain_bytes ≤ 2 ^ 20
  pub problem_short : length problem_bytes ≤ 2 ^ 20
  pub domain : PlainDomain
  pub problem : PlainProblem
  pub is_domain : IsDomainText domain_bytes domain
  pub is_problem : IsProblemText problem_bytes problem
  pub shown : text ≡ domain_text domain ++ problem_text problem

-- the same, where the shelf tells the job's files
abbrev pub IsReportText : Question → (List ℕ → Told) → PlainJob → List ℕ → Type 0
IsReportText question told job text =
    IfSome (told job.domain) (λ domain_file. IfSome (told job.problem) (λ problem_file. IfSome (told job.goals) (λ goals_file.
    IsWorldReport question domain_file problem_file goals_file text)))

abbrev pub IsShowText : (List ℕ → Told) → PlainJob → List ℕ → Type 0
IsShowText told job text =
    IfSome (told job.domain) (λ domain_file. IfSome (told job.problem) (λ problem_file. IsShownText domain_file problem_file text))

-- what the command prints for the job
abbrev pub IsTextOf : Command → (List ℕ → Told) → PlainJob → List ℕ → Type 0
IsTextOf Cost told job text = IsReportText Costs told job text
IsTextOf Wcd told job text = IsReportText OfWcd told job text
IsTextOf Show told job text = IsShowText told job text

-- the words ask for a job, and the text is what its command prints for it
pub record IsAnswerText (told : List ℕ → Told) (words : List (List ℕ)) (text : List ℕ) : Type 0 where
  pub job : PlainJob
  pub reads : Reads words job
  pub prints : IsTextOf job.command told job text

-- the output has grown by the whole text
abbrev pub HasReported : (List ℕ → Told) → List (List ℕ) → Option (List ℕ) → Option (List ℕ) → Type 0
HasReported told words before now = (text : List ℕ) × IsAnswerText told words text × (now ≡ extended before text)

-- the output has grown by a front of the text
abbrev pub HasReportedPartly : (List ℕ → Told) → List (List ℕ) → Option (List ℕ) → Option (List ℕ) → Type 0
HasReportedPartly told words before now = (text : List ℕ) × IsAnswerText told words text × (n : ℕ) × (n ≤ length text) × (now ≡ extended before (take n text))

-- what the output has grown by
abbrev pub HasWritten : (List ℕ → Told) → List (List ℕ) → Option (List ℕ) → Option (List ℕ) → Status → Type 0
HasWritten told words before now Done = HasReported told words before now
HasWritten told words before now (Refused refusal) = now ≡ before
HasWritten told words before now (Usage fault) = now ≡ before
HasWritten told words before now (Limit fault) = now ≡ before
HasWritten told words before now (ReadFailed role) = now ≡ before
HasWritten told words before now (WriteFailed Output) = HasReportedPartly told words before now
HasWritten told words before now (WriteFailed Certificate) = now ≡ before
HasWritten told words before now OutOfMemory = now ≡ before

-- a sink has grown by the whole of a line, or by a front of it where its count rose
abbrev pub GrowsBy : List ℕ → Option (List ℕ) → Option (List ℕ) → ℕ → ℕ → Type 0
GrowsBy line before now faults_before faults_now =
    (now ≡ extended before line)
    ⊎ ((n : ℕ) × (n ≤ length line) × (now ≡ extended before (take n line)) × Rose faults_before faults_now)

-- the error stream has grown by the status's line
abbrev pub HasWarned : Option (List ℕ) → Option (List ℕ) → ℕ → ℕ → Status → Type 0
HasWarned before now faults_before faults_now status = GrowsBy (error_text status) before now faults_before faults_now

-- what a status may become where its line is written: want of memory, unless its line takes none
abbrev pub MayBecome : Status → Status → Type 0
MayBecome Done after = after ≡ Done
MayBecome (WriteFailed target) after = after ≡ WriteFailed target
MayBecome before after = (after ≡ before) ⊎ (after ≡ OutOfMemory)

-- which states count against the limit for a goal: for the costs those that are near, and for the wcd
-- all that are reached
abbrev pub CountsFor : Question → PlainTask → GoalId → State → Type 0
CountsFor Costs t g = IsNear t g
CountsFor OfWcd t g = IsReachedFor t g

-- more states count for the goal, one of the task's, than the limit in force
abbrev pub MeetsLimit : Question → ℕ → PlainTask → GoalId → ℕ → Type 0
MeetsLimit question states t g limit = (g.0 < length t.goals) × (limit ≡ states) × MoreThan limit (CountsFor question t g)

-- why there is no answer over a task, where so many states may be kept
abbrev pub HasSearchCause : Question → ℕ → PlainTask → Status → Type 0
HasSearchCause question states t (Limit (States g limit)) = MeetsLimit question states t g limit
HasSearchCause question states t OutOfMemory = Unit {0}
HasSearchCause question states t status = ⊥

-- why there is no report over a world that was read: it is too large, or a search met its limit
abbrev pub HasAnswerCause : Question → ℕ → PlainTyped → List (List PlainGroundAtom) → Status → Type 0
HasAnswerCause question states typed goals (Limit (States g limit)) = HasFew typed × MeetsLimit question states (ground_task typed goals) g limit
HasAnswerCause question states typed goals status = HasCountCause typed status

-- the text spells this value and no other
abbrev pub SpellsOnly : {V : Type 0} → (List ℕ → V → Type 0) → V → List ℕ → Type 0
SpellsOnly {V} Spells x text = Spells text x × ((y : V) → Spells text y → y ≡ x)

-- the domain, the problem or the goals that the file spells are these
abbrev pub TakesDomain : (List ℕ → Told) → List ℕ → PlainDomain → Type 0
TakesDomain told domain d = HasText (told domain) (SpellsOnly IsDomainText d)

abbrev pub TakesProblem : (List ℕ → Told) → List ℕ → PlainProblem → Type 0
TakesProblem told problem p = HasText (told problem) (SpellsOnly IsProblemText p)

abbrev pub TakesGoals : (List ℕ → Told) → List ℕ → PlainTyped → List (List PlainGroundAtom) → Type 0
TakesGoals told goals_file typed goals = HasText (told goals_file) (λ text. SpellsOnlyGoals typed text goals)

-- the domain and the problem of the job are taken
pub record TakesTexts (told : List ℕ → Told) (job : PlainJob) (d : PlainDomain) (p : PlainProblem) : Type 0 where
  pub takes_domain : TakesDomain told job.domain d
  pub takes_problem : TakesProblem told job.problem p

-- and are well typed, and make this and nothing else
pub record TakesTyped (told : List ℕ → Told) (job : PlainJob) (typed : PlainTyped) : Type 0 where
  pub domain : PlainDomain
  pub problem : PlainProblem
  pub texts : TakesTexts told job domain problem
  pub are_typed : AreTyped domain problem typed
  pub only : (other : PlainTyped) → IsTyped domain problem other → other ≡ typed

-- the three files of the job are taken
pub record TakesFiles (told : List ℕ → Told) (job : PlainJob) (typed : PlainTyped) (goals : List (List PlainGroundAtom)) : Type 0 where
  pub takes_typed : TakesTyped told job typed
  pub takes_goals : TakesGoals told job.goals typed goals

-- why the domain or the problem was not taken; the problem's cause comes only where the domain was taken
abbrev pub HasTextsCause : (List ℕ → Told) → (List ℕ → Bool → ℕ) → (List ℕ → Bool → ℕ) → PlainJob → Status → Type 0
HasTextsCause told before now job (Refused (TooLong Domain limit)) =
    (limit ≡ 2 ^ 20) × IsQuiet before now × IsLongerFile (told job.domain) limit
HasTextsCause told before now job (Refused (Pddl Domain fault)) =
    IsPlainFault fault × IsQuiet before now × HasText (told job.domain) (FailsDomain fault)
HasTextsCause told before now job (Refused (TooLong Problem limit)) =
    (limit ≡ 2 ^ 20) × IsQuiet before now × (d : PlainDomain) × TakesDomain told job.domain d × IsLongerFile (told job.problem) limit
HasTextsCause told before now job (Refused (Pddl Problem fault)) =
    IsPlainFault fault × IsQuiet before now × (d : PlainDomain) × TakesDomain told job.domain d × HasText (told job.problem) (FailsProblem fault)
HasTextsCause told before now job (ReadFailed Domain) = OnlyRose before now job.domain
HasTextsCause told before now job (ReadFailed Problem) =
    ((d : PlainDomain) × TakesDomain told job.domain d) × OnlyRose before now job.problem
HasTextsCause told before now job OutOfMemory = Unit {0}
HasTextsCause told before now job status = ⊥

-- why the domain and the problem of the job make no typed ones
abbrev pub HasTypedCause : (List ℕ → Told) → (List ℕ → Bool → ℕ) → (List ℕ → Bool → ℕ) → PlainJob → Status → Type 0
HasTypedCause told before now job (Refused (Typing fault)) =
    IsQuiet before now × (d : PlainDomain) × (p : PlainProblem) × TakesTexts told job d p × HasTypingCause d p (Refused (Typing fault))
HasTypedCause told before now job status = HasTextsCause told before now job status

-- why the three files were not taken; each cause comes only where the files before it were taken
abbrev pub HasReadingCause : (List ℕ → Told) → (List ℕ → Bool → ℕ) → (List ℕ → Bool → ℕ) → PlainJob → Status → Type 0
HasReadingCause told before now job (Refused (TooLong Goals limit)) =
    (limit ≡ 2 ^ 20) × IsQuiet before now × (typed : PlainTyped) × TakesTyped told job typed × IsLongerFile (told job.goals) limit
HasReadingCause told before now job (Refused (OfGoals fault)) =
    (fault ≢ GoalsOutOfMemory) × IsQuiet before now
    × (typed : PlainTyped) × TakesTyped told job typed × HasText (told job.goals) (λ text. HasOnlyFault typed text fault)
HasReadingCause told before now job (ReadFailed Goals) = ((typed : PlainTyped) × TakesTyped told job typed) × OnlyRose before now job.goals
HasReadingCause told before now job status = HasTypedCause told before now job status

-- why there is no report over the three files: they were not taken, or there is no answer over their world
abbrev pub HasFilesCause : Question → (List ℕ → Told) → (List ℕ → Bool → ℕ) → (List ℕ → Bool → ℕ) → PlainJob → Status → Type 0
HasFilesCause question told before now job (Refused (Count fault)) =
    IsQuiet before now
    × (typed : PlainTyped) × (goals : List (List PlainGroundAtom)) × TakesFiles told job typed goals
    × HasAnswerCause question job.limits.states typed goals (Refused (Count fault))
HasFilesCause question told before now job (Limit fault) =
    IsQuiet before now
    × (typed : PlainTyped) × (goals : List (List PlainGroundAtom)) × TakesFiles told job typed goals
    × HasAnswerCause question job.limits.states typed goals (Limit fault)
HasFilesCause question told before now job status = HasReadingCause told before now job status

-- why the command has no text for the job
abbrev pub HasCommandCause : Command → (List ℕ → Told) → (List ℕ → Bool → ℕ) → (List ℕ → Bool → ℕ) → PlainJob → Status → Type 0
HasCommandCause Cost told before now job status = HasFilesCause Costs told before now job status
HasCommandCause Wcd told before now job status = HasFilesCause OfWcd told before now job status
HasCommandCause Show told before now job status = HasTextsCause told before now job status

-- the words ask for this job, and no other, and nothing in them is at fault
pub record ReadsOnly (words : List (List ℕ)) (job : PlainJob) : Type 0 where
  pub reads : Reads words job
  pub only : (other : PlainJob) → Reads words other → other ≡ job
  pub no_fault : (fault : UsageFault) → IsUsageFault words fault → ⊥

-- this is at fault in the words, and nothing else, and they ask for no job
pub record HasOnlyUsageFault (words : List (List ℕ)) (fault : UsageFault) : Type 0 where
  pub has : IsUsageFault words fault
  pub only : (other : UsageFault) → IsUsageFault words other → other ≡ fault
  pub no_job : (job : PlainJob) → Reads words job → ⊥

-- why there is no job: the words are at fault
abbrev pub HasWordsCause : List (List ℕ) → Status → Type 0
HasWordsCause words (Usage fault) = HasOnlyUsageFault words fault
HasWordsCause words OutOfMemory = Unit {0}
HasWordsCause words status = ⊥

-- why there is no text: the words are at fault, and then no count of the shelf changed, or the files of
-- the job are the cause
abbrev pub HasInputCause : (List ℕ → Told) → (List ℕ → Bool → ℕ) → (List ℕ → Bool → ℕ) → List (List ℕ) → Status → Type 0
HasInputCause told before now words (Usage fault) = IsQuiet before now × HasOnlyUsageFault words fault
HasInputCause told before now words OutOfMemory = Unit {0}
HasInputCause told before now words status =
    (job : PlainJob) × ReadsOnly words job × HasCommandCause job.command told before now job status

-- the three files of the job are taken, and the world is small enough
abbrev pub HasTakenFiles : (List ℕ → Told) → PlainJob → Type 0
HasTakenFiles told job =
    (typed : PlainTyped) × (goals : List (List PlainGroundAtom)) × TakesFiles told job typed goals × HasFew typed

-- what the command takes for the job
abbrev pub HasTaken : Command → (List ℕ → Told) → PlainJob → Type 0
HasTaken Cost told job = HasTakenFiles told job
HasTaken Wcd told job = HasTakenFiles told job
HasTaken Show told job = (d : PlainDomain) × (p : PlainProblem) × TakesTexts told job d p

-- the words were read and the files of the job taken, and no count of the shelf changed
pub record HasPassed (told : List ℕ → Told) (before now : List ℕ → Bool → ℕ) (words : List (List ℕ)) : Type 0 where
  pub quiet : IsQuiet before now
  pub job : PlainJob
  pub reads : ReadsOnly words job
  pub taken : HasTaken job.command told job

-- why the run ended so; Done comes only where no count changed
abbrev pub HasCause : (List ℕ → Told) → (List ℕ → Bool → ℕ) → (List ℕ → Bool → ℕ) → List (List ℕ) → ℕ → ℕ → Status → Type 0
HasCause told before now words out_before out_now Done = HasPassed told before now words × (out_now ≡ out_before)
HasCause told before now words out_before out_now (WriteFailed Output) = HasPassed told before now words × Rose out_before out_now
HasCause told before now words out_before out_now (WriteFailed Certificate) = ⊥
HasCause told before now words out_before out_now status = HasInputCause told before now words status

-- the domain and the problem are there, each with at most 2^20 bytes, and spell these
pub record HasTexts (told : List ℕ → Told) (job : PlainJob) (d : PlainDomain) (p : PlainProblem) : Type 0 where
  pub domain_bytes : List ℕ
  pub problem_bytes : List ℕ
  pub domain_there : told job.domain ≡ Some (Some domain_bytes)
  pub problem_there : told job.problem ≡ Some (Some problem_bytes)
  pub domain_short : length domain_bytes ≤ 2 ^ 20
  pub problem_short : length problem_bytes ≤ 2 ^ 20
  pub is_domain : IsDomainText domain_bytes d
  pub is_problem : IsProblemText problem_bytes p

-- they are well typed and, with the goals, also at most 2^20 bytes, spell this world
pub record HasWorld (told : List ℕ → Told) (job : PlainJob) (typed : PlainTyped) (goals : List (List PlainGroundAtom)) : Type 0 where
  pub domain : PlainDomain
  pub problem : PlainProblem
  pub texts : HasTexts told job domain problem
  pub are_typed : AreTyped domain problem typed
  pub goals_bytes : List ℕ
  pub goals_there : told job.goals ≡ Some (Some goals_bytes)
  pub goals_short : length goals_bytes ≤ 2 ^ 20
  pub gives : SpellsGoals typed goals_bytes goals

-- no count of what every command does rose: that of reading the domain or the problem, or of writing
-- the output
pub record HasNoFault (before now : List ℕ → Bool → ℕ) (job : PlainJob) (out_before out_now : ℕ) : Type 0 where
  pub reads_domain : Rose (before job.domain false) (now job.domain false) → ⊥
  pub reads_problem : Rose (before job.problem false) (now job.problem false) → ⊥
  pub writes : Rose out_before out_now → ⊥

-- the files spell a world that is small enough, no count rose, and for no goal more states count than the
-- limit
pub record CanReport (question : Question) (told : List ℕ → Told) (before now : List ℕ → Bool → ℕ) (job : PlainJob) (out_before out_now : ℕ) : Type 0 where
  pub typed : PlainTyped
  pub goals : List (List PlainGroundAtom)
  pub world : HasWorld told job typed goals
  pub few : HasFew typed
  pub no_fault : HasNoFault before now job out_before out_now
  pub reads_goals : Rose (before job.goals false) (now job.goals false) → ⊥
  pub few_states : (g : GoalId) → g.0 < length goals → MoreThan job.limits.states (CountsFor question (ground_task typed goals) g) → ⊥

-- the files spell a domain and a problem, and no count rose
pub record CanShow (told : List ℕ → Told) (before now : List ℕ → Bool → ℕ) (job : PlainJob) (out_before out_now : ℕ) : Type 0 where
  pub domain : PlainDomain
  pub problem : PlainProblem
  pub texts : HasTexts told job domain problem
  pub no_fault : HasNoFault before now job out_before out_now

-- the command has all that it needs for the job
abbrev pub CanAnswer : Command → (List ℕ → Told) → (List ℕ → Bool → ℕ) → (List ℕ → Bool → ℕ) → PlainJob → ℕ → ℕ → Type 0
CanAnswer Cost told before now job out_before out_now = CanReport Costs told before now job out_before out_now
CanAnswer Wcd told before now job out_before out_now = CanReport OfWcd told before now job out_before out_now
CanAnswer Show told before now job out_before out_now = CanShow told before now job out_before out_now

-- where the command has all that it needs, the run is Done, or ends in want of memory
abbrev pub IsComplete : (List ℕ → Told) → (List ℕ → Bool → ℕ) → (List ℕ → Bool → ℕ) → List (List ℕ) → ℕ → ℕ → Status → Type 0
IsComplete told before now words out_before out_now status =
    (job : PlainJob) → Reads words job → CanAnswer job.command told before now job out_before out_now
    → (status ≡ Done) ⊎ (status ≡ OutOfMemory)
