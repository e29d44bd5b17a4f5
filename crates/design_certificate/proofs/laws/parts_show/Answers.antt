use Rattle.design_certificate.proofs.ShownLemmas.{costs_shown, wcd_shown, design_shown}
use Rattle.design_certificate.proofs.PartLemmas.{part_shown}
use Rattle.design_certificate.proofs.laws.parts_show.Goals as goal

pub returns : goal.returns
returns c = record {
  costs = λ t costs are. costs_shown c.rows_refute.ensures t costs are;
  wcd = λ t costs removed x are keeps shown. wcd_shown c.rows_refute.ensures t costs are removed x keeps shown;
  design = λ t costs named budget removed w are are_named shown. design_shown c.rows_refute.ensures t costs are named are_named budget removed w shown;
  part = λ t costs whole budget d w are shown best. part_shown c.rows_refute.ensures t costs whole are shown budget d w best;
}
