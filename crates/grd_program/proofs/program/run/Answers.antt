use Rattle.std.proofs.Common.{map, string_bytes}
use Rattle.grd_program.proofs.CompleteLemmas.{complete, cause_kept, plain_end}
use Rattle.grd_program.proofs.program.run.Goals as goal

pub returns-clause-complete : goal.returns-clause-complete
returns-clause-complete g c =
    complete (g.F.Shelf.told c.args.shelf.now) (g.F.Shelf.faults c.args.shelf.now) (g.F.Shelf.faults c.print_answer-status.new.shelf) (map string_bytes c.args.words.now)
    (g.O.Sink.faults c.args.out.now) (g.O.Sink.faults c.print_answer-status.new.out) c.warn.result
    (cause_kept (g.F.Shelf.told c.args.shelf.now) (g.F.Shelf.faults c.args.shelf.now) (g.F.Shelf.faults c.print_answer-status.new.shelf) (map string_bytes c.args.words.now)
    (g.O.Sink.faults c.args.out.now) (g.O.Sink.faults c.print_answer-status.new.out) c.print_answer-status.result c.warn.result c.warn.ensures.kept c.print_answer-status.ensures.cause)

pub returns-clause-plain : goal.returns-clause-plain
returns-clause-plain g c =
    plain_end (g.F.Shelf.told c.args.shelf.now) (g.F.Shelf.faults c.args.shelf.now) (g.F.Shelf.faults c.print_answer-status.new.shelf) (map string_bytes c.args.words.now)
    (g.O.Sink.faults c.args.out.now) (g.O.Sink.faults c.print_answer-status.new.out) c.print_answer-status.result c.warn.result c.warn.ensures.kept c.print_answer-status.ensures.cause
