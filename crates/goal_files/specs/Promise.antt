-- The promise: what the clauses of public calls cite of this crate, in the order in which to read it.
-- What is left out serves private contracts alone.

-- The lines of a text, and the atoms that a line spells, by their names.
pub use Rattle.goal_files.specs.Lines.{lines_of, is_blank, is_skipped, Piece, bytes_of, IsPiece, MayFollow}
pub use Rattle.goal_files.specs.Lines.{FollowEachOther, IsCut, Mark, marks_of, BeginsAsName, IsAtom}
pub use Rattle.goal_files.specs.Lines.{atom_marks, IsGoalLine}
-- The goals that a file gives over a typed domain and problem, and what is at fault in a file that gives
-- none.
pub use Rattle.goal_files.specs.Goals.{SpellsGoal, SpellsGoals, HasNoAtoms, HasUnknownAtom, IsGoalFault}
-- Ground atoms and ground actions by the names of their predicate or schema and of their objects.
pub use Rattle.goal_files.specs.Ground.{IsNamed, AreArguments, IsAtomOf, IsActionOf, without_repeats}
-- A file of lines.
pub use Rattle.goal_files.specs.SpelledLines.{SpellLines, IsGood, IsFirstBad, as_lines}
-- The observations that a file gives over a typed domain and problem, and what is at fault in a file
-- that gives none.
pub use Rattle.goal_files.specs.Observations.{SpellsAction, SpellsObservations, HasNoList, HasUnknownAction}
pub use Rattle.goal_files.specs.Observations.{IsObsFault}
