use Rattle.std.proofs.Common.{ap, Some}
use Rattle.grd_io.proofs.Telling.{told_each}
use Rattle.grd_io.proofs.memory.MemoryShelf.in_steps.Goals as goal

pub returns-clause-told : goal.returns-clause-told
returns-clause-told c = λ k d within. ap (λ file. Some file) (told_each _ c.requires.names k d within)
