-- How a run ends.
use Rattle.std.specs.Prelude.{ℕ, ◌≢◌}
use Rattle.pddl_lexer.specs.declared.faults.TreeFault.TheVariants.{OutOfMemory as TreeOutOfMemory}
use Rattle.pddl_reader.specs.declared.faults.PddlFault.{PddlFault}
use Rattle.pddl_reader.specs.declared.faults.PddlFault.TheVariants.{Tree, OutOfMemory as PddlOutOfMemory}
use Rattle.goal_files.specs.declared.faults.GoalFault.TheVariants.{OutOfMemory as GoalsOutOfMemory}
use Rattle.ground_all.specs.declared.faults.GroundFault.TheVariants.{OutOfMemory as CountOutOfMemory}
use Rattle.grd_program.specs.declared.status.Status.{Status}
use Rattle.grd_program.specs.declared.status.Status.TheVariants.{Done, Refused, Usage, Limit, ReadFailed, WriteFailed, OutOfMemory}
use Rattle.grd_program.specs.declared.status.Refusal.{Refusal}
use Rattle.grd_program.specs.declared.status.Refusal.TheVariants.{TooLong, Pddl, Typing, Goals as OfGoals, Count}

-- the exit status of the program
abbrev pub code_of : Status → ℕ
code_of Done = 0
code_of (Refused refusal) = 1
code_of (Usage fault) = 2
code_of (Limit fault) = 4
code_of (ReadFailed role) = 5
code_of (WriteFailed target) = 6
code_of OutOfMemory = 7

-- the fault of a domain or a problem is not want of memory, nor is that of its brackets
abbrev pub IsPlainFault : PddlFault → Type 0
IsPlainFault fault = (fault ≢ PddlOutOfMemory) × (fault ≢ Tree TreeOutOfMemory)

-- no want of memory stands inside a refusal
abbrev pub IsPlainRefusal : Refusal → Type 0
IsPlainRefusal (TooLong role limit) = Unit {0}
IsPlainRefusal (Pddl role fault) = IsPlainFault fault
IsPlainRefusal (Typing fault) = Unit {0}
IsPlainRefusal (OfGoals fault) = fault ≢ GoalsOutOfMemory
IsPlainRefusal (Count fault) = fault ≢ CountOutOfMemory

abbrev pub IsPlainStatus : Status → Type 0
IsPlainStatus (Refused refusal) = IsPlainRefusal refusal
IsPlainStatus status = Unit {0}
