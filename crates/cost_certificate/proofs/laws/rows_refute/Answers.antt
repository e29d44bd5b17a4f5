use Rattle.cost_certificate.proofs.TableLemmas.{table_refutes}
use Rattle.cost_certificate.proofs.laws.rows_refute.Goals as goal

pub returns : goal.returns
returns c = λ t g removed rows row valid has p reaches. table_refutes t g removed rows valid p row has reaches
