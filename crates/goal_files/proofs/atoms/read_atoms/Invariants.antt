use Rattle.std.proofs.Common.{◌≡◌, length}
use Rattle.goal_files.specs.Reading.{plain_reading}
use Rattle.goal_files.proofs.Readings.{read_on, nothing_read}
use Rattle.goal_files.proofs.atoms.read_atoms.Given as goal

abbrev pub invariant-loop-piece : goal.invariant-loop-piece
invariant-loop-piece l = read_on nothing_read l.line ≡ read_on (plain_reading l.reading) l.rest

abbrev pub decreases-loop-piece : goal.decreases-loop-piece
decreases-loop-piece l = length l.rest
