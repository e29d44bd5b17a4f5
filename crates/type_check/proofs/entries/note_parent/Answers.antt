use Rattle.std.proofs.Common.{◌≡◌, ◌∙◌, Some, ap, sym, subst, rules}
use Rattle.std.specs.List.{Contains}
use Rattle.type_check.specs.Types.{place_in}
use Rattle.type_check.proofs.NameLaws.{found_place}
use Rattle.type_check.proofs.ParentLaws.{number_within, noted}
use Rattle.type_check.proofs.entries.note_parent.Goals as goal

pub bounds-parents-number : goal.bounds-parents-number
bounds-parents-number c =
    let text : c.as_str.result.now ≡ c.args.entry.now.name.text = search rules in
    number_within c.args.names.now c.requires.distinct c.args.entry.now c.requires.known c.args.parents.now c.in-Some.number
    (c.in-Some.ensures.place ∙ ap (place_in c.args.names.now) text) c.requires.each

pub returns-in-Some : goal.returns-in-Some
returns-in-Some c =
    let text : c.as_str.result.now ≡ c.args.entry.now.name.text = search rules in
    let given : c.place_of-parent.result ≡ Some (place_in c.args.names.now c.type_text.result.now) =
    found_place c.args.names.now c.type_text.result.now c.place_of-parent.result c.place_of-parent.ensures.place c.place_of-parent.ensures.none
    (subst (Contains c.args.names.now) (sym c.type_text.ensures) c.requires.parent_known) in
    noted c.args.names.now c.requires.distinct c.args.entry.now c.requires.known c.args.parents.now c.in-Some.number
    (c.in-Some.ensures.place ∙ ap (place_in c.args.names.now) text)
    c.place_of-parent.result (given ∙ ap (λ t. Some (place_in c.args.names.now t)) c.type_text.ensures)
