use Rattle.goal_files.proofs.TextParts.{HasKept}
use Rattle.goal_files.proofs.text_lines.kept_lines.Given as goal

abbrev pub invariant-loop-part : goal.invariant-loop-part
invariant-loop-part l = HasKept (goal.iterator-loop-part).next_gives l.text l.number l.lines.items l.part-iterator
