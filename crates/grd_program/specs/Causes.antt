-- Why a file was not taken.
use Rattle.std.specs.Prelude.{◌≡◌, ◌≢◌, ℕ, ◌^◌, ◌<◌, ◌≤◌, Bool, false, List, length, IfSome, IsSomeAnd}
use Rattle.grd_io.specs.Bytes.{Told, IsLongerFile}
use Rattle.grd_io.specs.Causes.{Rose}
use Rattle.grd_base.specs.declared.roles.FileRole.{FileRole}
use Rattle.grd_base.specs.declared.roles.FileRole.TheVariants.{Domain, Problem, Goals}
use Rattle.pddl_reader.specs.Values.{PlainDomain, PlainProblem}
use Rattle.pddl_reader.specs.Spelling.{IsDomainText, IsProblemText}
use Rattle.pddl_reader.specs.Faults.{IsDomainFault, IsProblemFault}
use Rattle.pddl_reader.specs.declared.faults.PddlFault.{PddlFault}
use Rattle.type_check.specs.Values.{PlainTyped, PlainGroundAtom}
use Rattle.type_check.specs.Rules.{IsWellTyped, IsTypeFault}
use Rattle.type_check.specs.Typing.{IsTyped}
use Rattle.type_check.specs.declared.faults.TypeFault.{TypeFault}
use Rattle.goal_files.specs.Goals.{SpellsGoals, IsGoalFault}
use Rattle.goal_files.specs.declared.faults.GoalFault.{GoalFault}
use Rattle.goal_files.specs.declared.faults.GoalFault.TheVariants.{OutOfMemory as GoalsOutOfMemory}
use Rattle.ground_all.specs.Grounding.{task_atoms, instances}
use Rattle.ground_all.specs.declared.faults.GroundFault.TheVariants.{TooManyAtoms, TooManyActions}
use Rattle.grd_program.specs.declared.status.Status.{Status}
use Rattle.grd_program.specs.declared.status.Status.TheVariants.{Refused, ReadFailed, OutOfMemory}
use Rattle.grd_program.specs.declared.status.Refusal.TheVariants.{TooLong, Pddl, Typing, Goals as OfGoals, Count}
use Rattle.grd_program.specs.Statuses.{IsPlainFault}

-- the file is there with at most 2^20 bytes, and its text has the property, where the shelf tells
abbrev pub HasText : Told → (List ℕ → Type 0) → Type 0
HasText told P = IfSome told (λ file. IsSomeAnd file (λ text. (length text ≤ 2 ^ 20) × P text))

-- no count of the shelf changed
abbrev pub IsQuiet : (List ℕ → Bool → ℕ) → (List ℕ → Bool → ℕ) → Type 0
IsQuiet before now = (name : List ℕ) (writing : Bool) → now name writing ≡ before name writing

-- the count of failed readings of this name rose, and no other count changed
pub record OnlyRose (before now : List ℕ → Bool → ℕ) (name : List ℕ) : Type 0 where
  pub rose : Rose (before name false) (now name false)
  pub others : (x : List ℕ) (w : Bool) → (x ≡ name → w ≡ false → ⊥) → now x w ≡ before x w

-- what a status says of a file that could not be read: that it is too long, where no count changed, or
-- that its count of failed readings rose
abbrev pub HasReadCause : FileRole → Told → (List ℕ → Bool → ℕ) → (List ℕ → Bool → ℕ) → List ℕ → Status → Type 0
HasReadCause role told before now name (Refused (TooLong named limit)) =
    (named ≡ role) × (limit ≡ 2 ^ 20) × IsQuiet before now × IsLongerFile told limit
HasReadCause role told before now name (ReadFailed named) = (named ≡ role) × OnlyRose before now name
HasReadCause role told before now name OutOfMemory = Unit {0}
HasReadCause role told before now name status = ⊥

-- this is at fault in the text, and nothing else, and the text spells no domain, or no problem
pub record FailsDomain (fault : PddlFault) (text : List ℕ) : Type 0 where
  pub has : IsDomainFault text fault
  pub only : (other : PddlFault) → IsDomainFault text other → other ≡ fault
  pub no_domain : (d : PlainDomain) → IsDomainText text d → ⊥

pub record FailsProblem (fault : PddlFault) (text : List ℕ) : Type 0 where
  pub has : IsProblemFault text fault
  pub only : (other : PddlFault) → IsProblemFault text other → other ≡ fault
  pub no_problem : (p : PlainProblem) → IsProblemText text p → ⊥

-- what a status says of the domain's or the problem's file: that its text is at fault, or that it could
-- not be read
abbrev pub HasDomainCause : Told → (List ℕ → Bool → ℕ) → (List ℕ → Bool → ℕ) → List ℕ → Status → Type 0
HasDomainCause told before now name (Refused (Pddl Domain fault)) =
    IsPlainFault fault × IsQuiet before now × HasText told (FailsDomain fault)
HasDomainCause told before now name status = HasReadCause Domain told before now name status

abbrev pub HasProblemCause : Told → (List ℕ → Bool → ℕ) → (List ℕ → Bool → ℕ) → List ℕ → Status → Type 0
HasProblemCause told before now name (Refused (Pddl Problem fault)) =
    IsPlainFault fault × IsQuiet before now × HasText told (FailsProblem fault)
HasProblemCause told before now name status = HasReadCause Problem told before now name status

-- the domain and the problem are well typed, and make this
pub record AreTyped (d : PlainDomain) (p : PlainProblem) (typed : PlainTyped) : Type 0 where
  pub well_typed : IsWellTyped d p
  pub made : IsTyped d p typed

-- this is at fault in their typing, and nothing else
pub record FailsTyping (d : PlainDomain) (p : PlainProblem) (fault : TypeFault) : Type 0 where
  pub has : IsTypeFault d p fault
  pub only : (other : TypeFault) → IsTypeFault d p other → other ≡ fault
  pub not_typed : IsWellTyped d p → ⊥

-- what a status says of a domain and a problem that are not well typed
abbrev pub HasTypingCause : PlainDomain → PlainProblem → Status → Type 0
HasTypingCause d p (Refused (Typing fault)) = FailsTyping d p fault
HasTypingCause d p OutOfMemory = Unit {0}
HasTypingCause d p status = ⊥

-- the text spells these goals, and no others, and nothing in it is at fault
pub record SpellsOnlyGoals (typed : PlainTyped) (text : List ℕ) (goals : List (List PlainGroundAtom)) : Type 0 where
  pub spells : SpellsGoals typed text goals
  pub only : (others : List (List PlainGroundAtom)) → SpellsGoals typed text others → others ≡ goals
  pub no_fault : (fault : GoalFault) → IsGoalFault typed text fault → ⊥

-- this is at fault in the text, and nothing else, and it spells no goals
pub record HasOnlyFault (typed : PlainTyped) (text : List ℕ) (fault : GoalFault) : Type 0 where
  pub has : IsGoalFault typed text fault
  pub only : (other : GoalFault) → IsGoalFault typed text other → other ≡ fault
  pub no_goals : (goals : List (List PlainGroundAtom)) → SpellsGoals typed text goals → ⊥

-- what a status says of the goals file: that it is at fault, or that it could not be read
abbrev pub HasGoalsCause : Told → (List ℕ → Bool → ℕ) → (List ℕ → Bool → ℕ) → List ℕ → PlainTyped → Status → Type 0
HasGoalsCause told before now name typed (Refused (OfGoals fault)) =
    (fault ≢ GoalsOutOfMemory) × IsQuiet before now × HasText told (λ text. HasOnlyFault typed text fault)
HasGoalsCause told before now name typed status = HasReadCause Goals told before now name status

-- the world is small enough: at most 3,072 fluent atoms and complements together, and 1,048,576 typed instances of
-- actions
pub record HasFew (typed : PlainTyped) : Type 0 where
  pub atoms : length (task_atoms typed) ≤ 3072
  pub actions : length (instances typed) ≤ 2 ^ 20

-- what a status says of a world that is too large: how many atoms it has, or else how many actions
abbrev pub HasCountCause : PlainTyped → Status → Type 0
HasCountCause typed (Refused (Count (TooManyAtoms count))) = (count ≡ length (task_atoms typed)) × (3072 < count)
HasCountCause typed (Refused (Count (TooManyActions count))) =
    (length (task_atoms typed) ≤ 3072) × (count ≡ length (instances typed)) × (2 ^ 20 < count)
HasCountCause typed OutOfMemory = Unit {0}
HasCountCause typed status = ⊥
