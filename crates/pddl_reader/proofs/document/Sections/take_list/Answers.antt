use Rattle.std.proofs.Common.{sym, subst}
use Rattle.pddl_reader.specs.Items.{forms_at}
use Rattle.pddl_reader.specs.Kept.{KeepsValues}
use Rattle.pddl_reader.specs.PlainSections.{plain_section}
use Rattle.pddl_reader.proofs.SectionReads.{content_kind, section_read, adds_section}
use Rattle.pddl_reader.proofs.document.Sections.take_list.Goals as goal

pub returns-clause-read : goal.returns-clause-read
returns-clause-read c =
    let text = c.args.text.now in
    let s = plain_section c.in_ok-section.section in
    let kind = c.in_ok-kind.kind in
    let forms = forms_at text c.in_ok-token.rest.now in
    let read = section_read c.args.document c.args.self.now.given.items c.args.at _ forms _ kind s (c.in_ok-token.ensures.found.forms text) c.in_ok-kind.ensures.read c.in_ok-section.ensures.read in
    let adds = adds_section c.args.self.now c.give.new.self s kind (content_kind kind c.args.at forms s c.in_ok-section.ensures.read) c.in_ok-kind.ensures.fresh
    (λ seen h fresh. subst (KeepsValues _) (sym c.in_ok-give.ensures.values) (c.in_ok-put.ensures.kept seen h fresh))
    c.in_ok-give.ensures.given in
    (s, read, adds)
