-- The promise: what the clauses of public calls cite of this crate, in the order in which to read it.
-- What is left out serves private contracts alone.

-- How a run ends.
pub use Rattle.grd_program.specs.Statuses.{code_of, IsPlainFault, IsPlainRefusal, IsPlainStatus}
-- The line that each status but Done writes to the error stream.
pub use Rattle.grd_program.specs.Errors.{role_text, usage_text, goals_text, feature_text, place_text}
pub use Rattle.grd_program.specs.Errors.{tree_text, pddl_text, kind_text, typing_text, count_text}
pub use Rattle.grd_program.specs.Errors.{refusal_text, error_text}
-- Why a file was not taken.
pub use Rattle.grd_program.specs.Causes.{HasText, IsQuiet, OnlyRose, FailsDomain, FailsProblem, AreTyped}
pub use Rattle.grd_program.specs.Causes.{FailsTyping, HasTypingCause, SpellsOnlyGoals, HasOnlyFault, HasFew}
pub use Rattle.grd_program.specs.Causes.{HasCountCause}
-- What a run of the program does.
pub use Rattle.grd_program.specs.Runs.{plans_in, IsWcdReport, IsReportOn, SpellWorld, IsWorldReport, IsShownText}
pub use Rattle.grd_program.specs.Runs.{IsReportText, IsShowText, IsTextOf, IsAnswerText, HasReported}
pub use Rattle.grd_program.specs.Runs.{HasReportedPartly, HasWritten, GrowsBy, HasWarned, CountsFor}
pub use Rattle.grd_program.specs.Runs.{MeetsLimit, HasAnswerCause, SpellsOnly, TakesDomain, TakesProblem}
pub use Rattle.grd_program.specs.Runs.{TakesGoals, TakesTexts, TakesTyped, TakesFiles, HasTextsCause}
pub use Rattle.grd_program.specs.Runs.{HasTypedCause, HasReadingCause, HasFilesCause, HasCommandCause}
pub use Rattle.grd_program.specs.Runs.{ReadsOnly, HasOnlyUsageFault, HasInputCause, HasTakenFiles, HasTaken}
pub use Rattle.grd_program.specs.Runs.{HasPassed, HasCause, HasTexts, HasWorld, HasNoFault, CanReport}
pub use Rattle.grd_program.specs.Runs.{CanShow, CanAnswer, IsComplete}
