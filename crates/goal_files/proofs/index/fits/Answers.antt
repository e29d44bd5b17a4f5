use Rattle.goal_files.proofs.Places.{is_found}
use Rattle.goal_files.proofs.index.fits.Goals as goal

pub returns : goal.returns
returns c = is_found c.args.place.now c.args.number c.binary_search.result c.is_ok.result c.requires c.binary_search.ensures.position c.is_ok.ensures.value
