use Rattle.grd_io.proofs.Counting.{noted_cause}
use Rattle.grd_io.proofs.memory.MemoryShelfShelf.append.Goals as goal

pub returns-then-is_next_failing-clause-cause : goal.returns-then-is_next_failing-clause-cause
returns-then-is_next_failing-clause-cause c = rw (← c.self.view_is) (noted_cause _ _ _ _ _ c.fail.ensures.noted c.fail.ensures.unnoted)
