use Rattle.std.proofs.Common.{List, ◌++◌, sym, ◌∙◌, ap, subst}
use Rattle.grd_base.specs.declared.ids.AtomId.{AtomId}
use Rattle.grd_base.specs.Rising.{IsRisingBy}
use Rattle.grd_base.specs.Sets.{minus}
use Rattle.strips_model.specs.Plans.{set_of}
use Rattle.strips_model.specs.Worlds.{complements}
use Rattle.type_check.specs.Values.{PlainTyped}
use Rattle.ground_all.specs.Found.{start_numbers}
use Rattle.ground_all.specs.Grounding.{fluent_atoms, is_watched}
use Rattle.ground_all.proofs.AtomNumbers.{places_rise}
use Rattle.ground_all.proofs.TaskLaws.{start_atoms_are}
use Rattle.ground_all.proofs.tasks.start_atoms.Goals as goal

pub add_complements-requires : goal.add_complements-requires
add_complements-requires c =
    let t = c.args.atoms.now in
    subst (IsRisingBy (λ (a : AtomId). a.0)) (sym c.watched.ensures) (places_rise (λ a. is_watched t a.predicate) 0 (fluent_atoms t))

pub returns : goal.returns
returns c =
    let t = c.args.atoms.now in
    let listed = c.deref.ensures.value ∙ ap (λ (t : PlainTyped). t.init) (c.behind-atoms.view_is ∙ c.typed.ensures.typed) in
    let init = c.in_ok-init.init.items in
    let first = c.in_ok-init.ensures in
    let found = c.in_ok-add_complements.ensures ∙ ap (λ (xs : List AtomId). xs ++ complements (start_numbers t) (minus (set_of c.watched.result.now) (set_of c.deref-2.result.now))) c.new-lacking.ensures.items
    ∙ ap (λ xs. complements (start_numbers t) (minus (set_of c.watched.result.now) (set_of xs))) c.deref-2.ensures.value in
    c.in_ok-append.ensures.items
    ∙ start_atoms_are t init c.add_complements.new.into.items c.watched.result.now c.deref.result.now listed first c.watched.ensures found
