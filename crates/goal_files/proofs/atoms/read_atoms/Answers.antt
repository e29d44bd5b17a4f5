use Rattle.std.proofs.Common.{◌≡◌, map, None, string_bytes, sym, ap, ◌∙◌, rules}
use Rattle.std.specs.Option.{option_map, option_and_then}
use Rattle.goal_files.specs.Reading.{front_of, plain_reading, piece_marks}
use Rattle.goal_files.proofs.Readings.{read_on, piece_read, less_left, nothing_more, no_reading, end_read}
use Rattle.goal_files.proofs.atoms.read_atoms.Goals as goal

pub loop-piece-smaller : goal.loop-piece-smaller
loop-piece-smaller c = less_left c.loop-piece.rest.now (piece_marks c.in-Some.piece) c.in-Some.behind.now (sym c.in-Some.ensures.front)

pub loop-piece-preserved : goal.loop-piece-preserved
loop-piece-preserved c =
    c.loop-piece.invariant
    ∙ piece_read c.loop-piece.rest.now (piece_marks c.in-Some.piece) c.in-Some.behind.now (plain_reading c.loop-piece.reading) (sym c.in-Some.ensures.front)
    ∙ ap (option_and_then (λ next. read_on next c.in-Some.behind.now)) (sym c.in_ok-more.ensures ∙ ap (option_map plain_reading) c.in-Some-2.is)

pub returns-in-None : goal.returns-in-None
returns-in-None c =
    no_reading c.args.line.now
    (c.loop-piece.invariant
    ∙ piece_read c.loop-piece.rest.now (piece_marks c.in-Some.piece) c.in-Some.behind.now (plain_reading c.loop-piece.reading) (sym c.in-Some.ensures.front)
    ∙ ap (option_and_then (λ next. read_on next c.in-Some.behind.now)) (sym c.in_ok-more.ensures ∙ ap (option_map plain_reading) c.in-None.is))

pub returns-then-not-is_empty : goal.returns-then-not-is_empty
returns-then-not-is_empty c =
    let none : front_of c.loop-piece.rest.now ≡ None = search rules in
    no_reading c.args.line.now
    (c.loop-piece.invariant ∙ nothing_more (plain_reading c.loop-piece.reading) c.loop-piece.rest.now none (sym c.is_empty.ensures ∙ c.if-not-is_empty.true))

pub returns : goal.returns
returns c =
    end_read (λ v. map (λ a. map string_bytes a.items) v.items) c.whole_atoms.result c.args.line.now c.loop-piece.rest.now (plain_reading c.loop-piece.reading)
    c.loop-piece.invariant (sym c.is_empty.ensures ∙ c.if-not-is_empty.false) c.whole_atoms.ensures
