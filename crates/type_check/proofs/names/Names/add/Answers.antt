use Rattle.std.proofs.Common.{◌≢◌, refl, sym, subst}
use Rattle.std.specs.List.{AllPairs}
use Rattle.type_check.proofs.NameIndex.{added_name, different_names}
use Rattle.type_check.proofs.names.Names.add.Goals as goal

pub returns-clause-added : goal.returns-clause-added
returns-clause-added c =
    added_name c.self.inside.names.keys c.args.name.now c.args.name refl c.args.self.now c.insert.new.self.keys c.in_ok-insert.field-0 (sym c.self.view_is) c.in_ok-insert.ensures.added c.in_ok-insert.ensures.keys

pub invariant_of-self-2 : goal.invariant_of-self-2
invariant_of-self-2 c =
    different_names c.self.inside.names.keys c.args.name.now c.args.self.now _ c.in_ok-insert.field-0
    (subst (AllPairs (λ x y. x ≢ y)) c.self.view_is c.self.invariant) (returns-clause-added c)
