use Rattle.grd_io.proofs.Counting.{noted_cause}
use Rattle.grd_io.proofs.memory.MemoryShelfShelf.read_at.Goals as goal

pub returns-then-is_next_failing-clause-cause : goal.returns-then-is_next_failing-clause-cause
returns-then-is_next_failing-clause-cause c = rw (← c.self.view_is) (noted_cause _ _ _ _ _ c.fail.ensures.noted c.fail.ensures.unnoted)

pub returns-in-None-clause-cause : goal.returns-in-None-clause-cause
returns-in-None-clause-cause c = rw (← c.self.view_is) (noted_cause _ _ _ _ _ c.fail-in-None.ensures.noted c.fail-in-None.ensures.unnoted)
