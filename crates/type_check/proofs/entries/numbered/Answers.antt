use Rattle.std.proofs.Common.{◌≡◌, ap, ◌∙◌, [], ◌∷◌, ◌++◌, map, rules}
use Rattle.type_check.specs.Types.{object_type, names_of, type_of, firsts, type_names}
use Rattle.type_check.proofs.NameLaws.{firsts-added}
use Rattle.type_check.proofs.entries.numbered.Goals as goal

pub returns : goal.returns
unfolding object_type type_names
returns c =
    let declared : c.as_slice.result.now ≡ c.args.domain.now.types = search rules in
    let again : c.as_slice-2.result.now ≡ c.args.domain.now.types = search rules in
    let object = firsts-added [] c.new-names.result c.add.new.self object_type c.in_ok-add.field-0 c.new-names.ensures c.in_ok-add.ensures.added in
    let names = c.in_ok-add_names.ensures (object_type ∷ []) object ∙ ap (λ types. firsts (object_type ∷ names_of types)) declared in
    c.in_ok-add_parents.ensures (object_type ∷ names_of c.args.domain.now.types) names ∙ ap (λ types. firsts (object_type ∷ names_of c.args.domain.now.types ++ map type_of types)) again
