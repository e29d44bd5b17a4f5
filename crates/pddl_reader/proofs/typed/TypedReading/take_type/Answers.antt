use Rattle.std.proofs.Common.{◌≡◌, [], ◌∷◌, ◌++◌, refl, sym, ap, ◌∙◌}
use Rattle.pddl_reader.specs.Forms.{form_at}
use Rattle.pddl_reader.specs.Typed.{typed_by}
use Rattle.pddl_reader.specs.Reading.{typed_from}
use Rattle.pddl_reader.specs.Steps.{behind}
use Rattle.pddl_reader.specs.TypedSteps.{typed_rest}
use Rattle.pddl_reader.proofs.TypedReadings.{type-step}
use Rattle.pddl_reader.proofs.typed.TypedReading.take_type.Goals as goal

pub returns-clause-taken : goal.returns-clause-taken
returns-clause-taken c =
    let listed = c.args.listed in
    let names = c.args.self.now.names.items in
    let waiting = c.args.self.now.waiting.items in
    let types = c.in_ok-types.types in
    let elements : c.replace-elements.result.items ≡ waiting = rw c.replace-elements.ensures.value refl in
    let added = c.in_ok-add_typed.ensures ∙ ap (λ es. names ++ typed_by types es) elements in
    let none : c.replace-elements.new.dest.items ≡ [] = rw c.replace-elements.ensures.after c.new.ensures.items in
    let f = form_at c.args.text.now c.args.item.now in
    λ at forms.
    ap (λ dash. behind names (typed_rest listed at waiting dash (f ∷ forms))) c.requires.dash
    ∙ type-step listed at names waiting types f forms c.in_ok-types.ensures.read
    ∙ ap (λ ns. behind ns (typed_from listed at [] forms)) (sym added)
    ∙ ap (λ ws. behind c.add_typed.new.names.items (typed_from listed at ws forms)) (sym none)
