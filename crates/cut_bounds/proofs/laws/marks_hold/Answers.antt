use Rattle.std.proofs.Common.{refl, []}
use Rattle.strips_model.specs.Plans.{set_of}
use Rattle.cut_bounds.specs.CutMarks.{listed_cut}
use Rattle.cut_bounds.proofs.ListedCuts.{listed_exact}
use Rattle.cut_bounds.proofs.MarkLaws.{mark_steps, mark_never, mark_family, mark_empty, mark_of_family, zone_more, zone_never}
use Rattle.cut_bounds.proofs.LackingLaws.{lacking_mark}
use Rattle.cut_bounds.proofs.laws.marks_hold.Goals as goal

pub returns-clause-steps : goal.returns-clause-steps
returns-clause-steps c = λ t g removed s lists bound task mark. mark_steps t g removed s task lists bound mark

pub returns-clause-never : goal.returns-clause-never
returns-clause-never c = λ t g removed s lists task mark. mark_never t g removed s task lists mark

pub returns-clause-family : goal.returns-clause-family
returns-clause-family c = λ t g removed s lists bound around task is mark. mark_family t g removed s task lists bound mark around is

pub returns-clause-empty : goal.returns-clause-empty
returns-clause-empty c = λ t g removed s lists around task is mark. mark_empty t g removed s task lists _ mark around is refl

pub returns-clause-lacking : goal.returns-clause-lacking
returns-clause-lacking c = λ t g removed s task one full. lacking_mark t g removed s task one full

pub returns-clause-cuts : goal.returns-clause-cuts
returns-clause-cuts c = λ t g removed s sets family full. mark_of_family t g removed s (λ u. listed_cut t removed (set_of u)) (λ u a. listed_exact t removed (set_of u) a) sets family full

pub returns-clause-zone : goal.returns-clause-zone
returns-clause-zone c = λ t g removed s lists zone reached list n z mark some. zone_more t g removed s lists zone reached list z n mark some

pub returns-clause-shut : goal.returns-clause-shut
returns-clause-shut c = λ t g removed s lists zone reached z. zone_never t g removed s lists zone reached [] z refl
