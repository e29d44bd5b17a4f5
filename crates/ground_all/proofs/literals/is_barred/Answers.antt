use Rattle.std.proofs.Common.{Bool, not, ◌&&◌, rules}
use borrow.Author.Tests.{tests}
use Rattle.std.proofs.lemmas.Iterator.{YieldsList-from_slice}
use Rattle.std.proofs.lemmas.Iterator.Search.{any_from_yields_List}
use Rattle.strips_model.specs.Worlds.{has_atom}
use Rattle.type_check.specs.Values.{PlainGroundAtom, is_same_atom}
use Rattle.ground_all.specs.Grounding.{fluent_atoms, is_true_at_start}
use Rattle.ground_all.proofs.literals.is_barred.Goals as goal

pub returns : goal.returns
returns c =
    let t = c.args.atoms.now in
    let holds : PlainGroundAtom → Bool = λ a. not (has_atom is_same_atom (fluent_atoms t) a) && is_true_at_start t a in
    any_from_yields_List holds _ _ c.any.result c.any.ensures.ran (YieldsList-from_slice c.args.list.now cc) (λ x b q k. search (rules, tests))
