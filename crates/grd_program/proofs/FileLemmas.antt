-- What was read of a file, as a fact on what its shelf tells.
use Rattle.std.proofs.Common.{◌≡◌, ◌≢◌, ℕ, Bool, ◌^◌, ◌≤◌, List, ◌++◌, length, Option, Some, None, sym, subst, refl, ◌⊎◌, inl, inr}
use Rattle.std.specs.Prelude.{IsSomeAnd, IfSome, IfOk, IsOk, IsOkAnd, Result, Ok, Err}
use Rattle.grd_io.specs.Bytes.{Told, IsWholeFile}
use Rattle.pddl_reader.specs.Values.{PlainDomain, PlainProblem}
use Rattle.pddl_reader.specs.Spelling.{IsDomainText, IsProblemText}
use Rattle.type_check.specs.Values.{PlainTyped, PlainGroundAtom}
use Rattle.type_check.specs.Rules.{IsWellTyped, IsTypeFault}
use Rattle.type_check.specs.declared.faults.TypeFault.{TypeFault}
use Rattle.type_check.specs.declared.faults.CheckTypeFault.{CheckTypeFault}
use Rattle.type_check.specs.declared.faults.CheckTypeFault.TheVariants.{Typing as IsTyping, OutOfMemory as TypingMemory}
use Rattle.goal_files.specs.declared.faults.GoalFault.{GoalFault}
use Rattle.goal_files.specs.declared.faults.GoalFault.TheVariants.{Shape, UnknownAtom, NoGoal, TooManyGoals, OutOfMemory as GoalsMemory}
use Rattle.command_words.specs.declared.faults.UsageFault.{UsageFault}
use Rattle.command_words.specs.declared.faults.WordsFault.{WordsFault}
use Rattle.command_words.specs.declared.faults.WordsFault.TheVariants.{Usage, OutOfMemory as NoMemory}
use Rattle.command_words.specs.Commands.{PlainJob, Reads, IsUsageFault}
use Rattle.grd_program.specs.declared.question.Question.{Question}
use Rattle.pddl_print.specs.Canonical.{domain_text, problem_text}
use Rattle.grd_base.specs.declared.roles.FileRole.{FileRole}
use Rattle.pddl_reader.specs.declared.faults.PddlFault.{PddlFault}
use Rattle.pddl_reader.specs.declared.faults.PddlFault.TheVariants.{Lex, Tree, Shape as PddlShape, Unsupported, DoubledSection, OutOfMemory as PddlMemory}
use Rattle.grd_program.specs.declared.status.Status.{Status}
use Rattle.grd_program.specs.declared.status.Status.TheVariants.{Done, Refused, Usage as BadUsage, Limit, ReadFailed, WriteFailed, OutOfMemory}
use Rattle.grd_program.specs.declared.status.Refusal.TheVariants.{TooLong, Pddl, Typing, Goals as OfGoals, Count}
use Rattle.pddl_lexer.specs.declared.faults.TreeFault.{TreeFault}
use Rattle.pddl_lexer.specs.declared.faults.TreeFault.TheVariants.{OutOfMemory as TreeMemory}
use Rattle.grd_program.specs.Statuses.{IsPlainFault}
use Rattle.grd_program.specs.Causes.{HasText, FailsTyping, SpellsOnlyGoals}
use Rattle.grd_program.specs.Runs.{IsReportOn, SpellsOnly, IsWorldReport, IsShownText, IsReportText, IsShowText, TakesTexts, TakesFiles, HasReadingCause, HasFilesCause, ReadsOnly, HasOnlyUsageFault}

-- the text that was read has the property
pub has : (told : Told) (bytes : List ℕ) (P : List ℕ → Type 0) → IsWholeFile told bytes → length bytes ≤ 2 ^ 20 → P bytes → HasText told P
has None bytes P whole short p = tt
has (Some file) bytes P whole short p =
    let Q : Option (List ℕ) → Type 0 = λ f. IsSomeAnd f (λ text. (length text ≤ 2 ^ 20) × P text) in
    subst Q (sym whole) (short, p)

-- the report over files that are taken
pub report_text_is : (question : Question) (told : List ℕ → Told) (job : PlainJob) (typed : PlainTyped) (goals : List (List PlainGroundAtom)) (text : List ℕ)
    → TakesFiles told job typed goals → IsReportOn question typed goals text → IsReportText question told job text
report_text_is question told job typed goals text taken report =
    each (told job.domain) (told job.problem) (told job.goals) taken.takes_typed.texts.takes_domain taken.takes_typed.texts.takes_problem taken.takes_goals
  where
    each : (dt pt gt : Told) → HasText dt (SpellsOnly IsDomainText taken.takes_typed.domain) → HasText pt (SpellsOnly IsProblemText taken.takes_typed.problem)
        → HasText gt (λ t. SpellsOnlyGoals typed t goals)
        → IfSome dt (λ df. IfSome pt (λ pf. IfSome gt (λ gf. IsWorldReport question df pf gf text)))
    each None pt gt hd hp hg = tt
    each (Some df) None gt hd hp hg = tt
    each (Some df) (Some pf) None hd hp hg = tt
    each (Some None) (Some pf) (Some gf) hd hp hg = absurd hd
    each (Some (Some dt)) (Some None) (Some gf) hd hp hg = absurd hp
    each (Some (Some dt)) (Some (Some pt)) (Some None) hd hp hg = absurd hg
    each (Some (Some dt)) (Some (Some pt)) (Some (Some gt)) hd hp hg = record {
      domain_text = dt;
      problem_text = pt;
      goals_text = gt;
      domain_there = refl;
      problem_there = refl;
      goals_there = refl;
      domain_short = hd.0;
      problem_short = hp.0;
      goals_short = hg.0;
      typed = typed;
      goals = goals;
      spelled = record {
        domain = taken.takes_typed.domain;
        problem = taken.takes_typed.problem;
        is_domain = hd.1.0;
        is_problem = hp.1.0;
        are_typed = taken.takes_typed.are_typed;
        gives = hg.1.spells;
      };
      report = report;
    }

-- where the files were not taken, that is why there is no report
pub reading_files : (question : Question) (told : List ℕ → Told) (before now : List ℕ → Bool → ℕ) (job : PlainJob) (s : Status)
    → HasReadingCause told before now job s → HasFilesCause question told before now job s
reading_files question told before now job Done h = h
reading_files question told before now job (BadUsage fault) h = h
reading_files question told before now job (Refused (TooLong role limit)) h = h
reading_files question told before now job (Refused (Pddl role fault)) h = h
reading_files question told before now job (Refused (Typing fault)) h = h
reading_files question told before now job (Refused (OfGoals fault)) h = h
reading_files question told before now job (Refused (Count fault)) h = absurd h
reading_files question told before now job (Limit fault) h = absurd h
reading_files question told before now job (ReadFailed role) h = h
reading_files question told before now job (WriteFailed target) h = h
reading_files question told before now job OutOfMemory h = h

-- the canonical texts of files that are taken
pub show_text_is : (told : List ℕ → Told) (job : PlainJob) (d : PlainDomain) (p : PlainProblem) (text : List ℕ)
    → TakesTexts told job d p → text ≡ domain_text d ++ problem_text p → IsShowText told job text
show_text_is told job d p text taken shown = each (told job.domain) (told job.problem) taken.takes_domain taken.takes_problem
  where
    each : (dt pt : Told) → HasText dt (SpellsOnly IsDomainText d) → HasText pt (SpellsOnly IsProblemText p)
        → IfSome dt (λ df. IfSome pt (λ pf. IsShownText df pf text))
    each None pt hd hp = tt
    each (Some df) None hd hp = tt
    each (Some None) (Some pf) hd hp = absurd hd
    each (Some (Some dt)) (Some None) hd hp = absurd hp
    each (Some (Some dt)) (Some (Some pt)) hd hp = record {
      domain_bytes = dt;
      problem_bytes = pt;
      domain_there = refl;
      problem_there = refl;
      domain_short = hd.0;
      problem_short = hp.0;
      domain = d;
      problem = p;
      is_domain = hd.1.0;
      is_problem = hp.1.0;
      shown = shown;
    }

pub ok_more : {T E : Type 0} (P Q : T → Type 0) (r : Result T E) → ((x : T) → P x → Q x) → IfOk r P → IfOk r Q
ok_more P Q (Ok x) more p = more x p
ok_more P Q (Err e) more p = tt

-- what a reading of words says by its clauses, where it answers a job or a fault
module _ (words : List (List ℕ)) (r : Result PlainJob WordsFault)
    (read_exactly : (job : PlainJob) → Reads words job → (r ≡ Ok job) ⊎ (r ≡ Err NoMemory))
    (fault_exactly : (f : UsageFault) → IsUsageFault words f → (r ≡ Err (Usage f)) ⊎ (r ≡ Err NoMemory)) where
  pub only_job : (job : PlainJob) → r ≡ Ok job → Reads words job → ReadsOnly words job
  only_job job is reads = record {
    reads = reads;
    only = λ other s. one other (read_exactly other s);
    no_fault = λ f h. none f (fault_exactly f h);
  }
    where
      one : (other : PlainJob) → (r ≡ Ok other) ⊎ (r ≡ Err NoMemory) → other ≡ job
      one other (inl e) = cc
      one other (inr e) = cc

      none : (f : UsageFault) → (r ≡ Err (Usage f)) ⊎ (r ≡ Err NoMemory) → ⊥
      none f (inl e) = cc
      none f (inr e) = cc

  pub only_usage : (fault : UsageFault) → r ≡ Err (Usage fault) → IsUsageFault words fault → HasOnlyUsageFault words fault
  only_usage fault is has = record {
    has = has;
    only = λ other h. one other (fault_exactly other h);
    no_job = λ job s. none job (read_exactly job s);
  }
    where
      one : (other : UsageFault) → (r ≡ Err (Usage other)) ⊎ (r ≡ Err NoMemory) → other ≡ fault
      one other (inl e) = cc
      one other (inr e) = cc

      none : (job : PlainJob) → (r ≡ Ok job) ⊎ (r ≡ Err NoMemory) → ⊥
      none job (inl e) = cc
      none job (inr e) = cc

-- what a reading of a file says by its clauses, where it answers a value or a fault
module _ {V E : Type 0} (Spells : V → Type 0) {memory : E} (r : Result V E) (exactly : (x : V) → Spells x → (r ≡ Ok x) ⊎ (r ≡ Err memory)) where
  pub only_value : (x : V) → r ≡ Ok x → (y : V) → Spells y → y ≡ x
  only_value x is y s = one (exactly y s)
    where
      one : (r ≡ Ok y) ⊎ (r ≡ Err memory) → y ≡ x
      one (inl e) = cc
      one (inr e) = cc

  pub no_value : (fault : E) → r ≡ Err fault → (fault ≡ memory → ⊥) → (y : V) → Spells y → ⊥
  no_value fault is plain y s = none (exactly y s)
    where
      none : (r ≡ Ok y) ⊎ (r ≡ Err memory) → ⊥
      none (inl e) = cc
      none (inr e) = plain cc

pub not_ok : {V E : Type 0} (P : V → Type 0) {memory : E} (r : Result V E) (fault : E) → r ≡ Err fault → (fault ≡ memory → ⊥) → IsOkAnd r P ⊎ (r ≡ Err memory) → ⊥
not_ok P (Ok x) fault is plain h = cc
not_ok P (Err e) fault is plain (inl ok) = absurd ok
not_ok P (Err e) fault is plain (inr m) = plain cc

pub only_fault : {V E : Type 0} (F : E → Type 0) {memory : E} (r : Result V E) → ((f : E) → F f → (r ≡ Err f) ⊎ (r ≡ Err memory))
    → (fault : E) → r ≡ Err fault → (fault ≡ memory → ⊥) → (other : E) → F other → other ≡ fault
only_fault F {memory = memory} r exactly fault is plain other h = one (exactly other h)
  where
    one : (r ≡ Err other) ⊎ (r ≡ Err memory) → other ≡ fault
    one (inl e) = cc
    one (inr e) = absurd (plain cc)

pub plain_fault : {E : Type 0} (F : E → Type 0) {memory : E} (fault : E) → (fault ≡ memory) ⊎ F fault → (fault ≡ memory → ⊥) → F fault
plain_fault F fault (inl is) plain = absurd (plain is)
plain_fault F fault (inr h) plain = h

-- no want of memory stands in a fault of a text, where it is no fault of any, nor one of its brackets
pub plain_text : (F : PddlFault → Type 0) → (F PddlMemory → ⊥) → ((fault : TreeFault) → F (Tree fault) → fault ≢ TreeMemory)
    → (fault : PddlFault) → F fault → IsPlainFault fault
plain_text F memory tree fault h = ((λ e. memory (subst F e h)), (λ e. tree TreeMemory (subst F e h) refl))

-- how a run ends by a fault of a domain or a problem
pub pddl_cause : (P : Status → Type 0) (role : FileRole) (fault : PddlFault) (s : Status)
    → (fault ≡ PddlMemory → s ≡ OutOfMemory) → ((fault ≡ PddlMemory → ⊥) → s ≡ Refused (Pddl role fault))
    → P OutOfMemory → ((fault ≡ PddlMemory → ⊥) → P (Refused (Pddl role fault))) → P s
pddl_cause P role PddlMemory s memory refused free caused = subst P (sym (memory refl)) free
pddl_cause P role (Lex at) s memory refused free caused = subst P (sym (refused (λ e. cc))) (caused (λ e. cc))
pddl_cause P role (Tree fault) s memory refused free caused = subst P (sym (refused (λ e. cc))) (caused (λ e. cc))
pddl_cause P role (PddlShape at) s memory refused free caused = subst P (sym (refused (λ e. cc))) (caused (λ e. cc))
pddl_cause P role (Unsupported at feature) s memory refused free caused = subst P (sym (refused (λ e. cc))) (caused (λ e. cc))
pddl_cause P role (DoubledSection at) s memory refused free caused = subst P (sym (refused (λ e. cc))) (caused (λ e. cc))

-- how a run ends by a fault of a goals file
pub goals_cause : (P : Status → Type 0) (fault : GoalFault) (s : Status)
    → (fault ≡ GoalsMemory → s ≡ OutOfMemory) → ((fault ≡ GoalsMemory → ⊥) → s ≡ Refused (OfGoals fault))
    → P OutOfMemory → ((fault ≡ GoalsMemory → ⊥) → P (Refused (OfGoals fault))) → P s
goals_cause P GoalsMemory s memory refused free caused = subst P (sym (memory refl)) free
goals_cause P (Shape line) s memory refused free caused = subst P (sym (refused (λ e. cc))) (caused (λ e. cc))
goals_cause P (UnknownAtom line) s memory refused free caused = subst P (sym (refused (λ e. cc))) (caused (λ e. cc))
goals_cause P NoGoal s memory refused free caused = subst P (sym (refused (λ e. cc))) (caused (λ e. cc))
goals_cause P (TooManyGoals goals) s memory refused free caused = subst P (sym (refused (λ e. cc))) (caused (λ e. cc))

-- a check of types answers the one fault
pub fails_typing : (d : PlainDomain) (p : PlainProblem) (r : Result PlainTyped CheckTypeFault) (fault : TypeFault)
    → ((f : TypeFault) → IsTypeFault d p f → (r ≡ Err (IsTyping f)) ⊎ (r ≡ Err TypingMemory)) → (IsWellTyped d p → IsOk r ⊎ (r ≡ Err TypingMemory))
    → r ≡ Err (IsTyping fault) → IsTypeFault d p fault → FailsTyping d p fault
fails_typing d p r fault exactly makes is has = record {
  has = has;
  only = λ other h. one other (exactly other h);
  not_typed = λ well. none r is (makes well);
}
  where
    one : (other : TypeFault) → (r ≡ Err (IsTyping other)) ⊎ (r ≡ Err TypingMemory) → other ≡ fault
    one other (inl e) = cc
    one other (inr e) = cc

    none : (x : Result PlainTyped CheckTypeFault) → x ≡ Err (IsTyping fault) → IsOk x ⊎ (x ≡ Err TypingMemory) → ⊥
    none (Ok typed) e h = cc
    none (Err f) e (inl ok) = cc
    none (Err f) e (inr m) = cc
