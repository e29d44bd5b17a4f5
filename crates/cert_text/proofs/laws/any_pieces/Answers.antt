use Rattle.cert_text.proofs.Pieces.{pieces_joined}
use Rattle.cert_text.proofs.laws.any_pieces.Goals as goal

pub returns : goal.returns
returns c = pieces_joined
