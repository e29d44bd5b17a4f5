use Rattle.type_check.proofs.TypeLaws.{few_by_names}
use Rattle.type_check.proofs.types.Types.of.Goals as goal

pub parents_of-requires-clause-few : goal.parents_of-requires-clause-few
parents_of-requires-clause-few c = few_by_names c.args.domain.now c.in_ok-names.names c.in_ok-names.ensures c.requires

pub invariant_of-types : goal.invariant_of-types
invariant_of-types c =
    record { are_names = c.in_ok-names.ensures; are_parents = c.in_ok-parents.ensures; few = few_by_names c.args.domain.now c.in_ok-names.names c.in_ok-names.ensures c.requires }

pub invariant_of-types-2 : goal.invariant_of-types-2
invariant_of-types-2 c =
    record { are_names = c.in_ok-names.ensures; are_parents = c.in_ok-parents.ensures; few = few_by_names c.args.domain.now c.in_ok-names.names c.in_ok-names.ensures c.requires }
