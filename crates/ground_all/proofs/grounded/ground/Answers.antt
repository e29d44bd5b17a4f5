use Rattle.ground_all.proofs.SoundLaws.{sound}
use Rattle.ground_all.proofs.grounded.ground.Goals as goal

pub few_counts-requires : goal.few_counts-requires
few_counts-requires c = sound c.args.typed.now c.requires.typed
