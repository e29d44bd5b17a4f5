use Rattle.grd_program.proofs.FileLemmas.{show_text_is}
use Rattle.grd_program.proofs.show.show_text.Goals as goal

pub returns-clause-text : goal.returns-clause-text
returns-clause-text g c =
    let texts = c.in_ok-texts.texts in
    show_text_is (g.F.Shelf.told c.args.shelf.now) c.args.job.now texts.domain texts.problem c.in_ok-canonical_text.field-0.items
    c.in_ok-texts.ensures.taken c.in_ok-canonical_text.ensures
