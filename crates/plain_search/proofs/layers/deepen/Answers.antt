use Rattle.std.proofs.Common.{◌≡◌, Some, sym, ◌∙◌, ap, arith}
use Rattle.std.specs.Option.{option_map}
use Rattle.grd_base.specs.Bits.{members}
use Rattle.strips_model.specs.Plans.{step}
use Rattle.plain_search.specs.Walks.{visits}
use Rattle.plain_search.proofs.WalkStateLemmas.{length-visits}
use Rattle.plain_search.proofs.WalkPlanLemmas.{passed_on}
use Rattle.plain_search.proofs.LayerLemmas.{deepen_noted, deepen_many}
use Rattle.plain_search.proofs.layers.deepen.Goals as goal

pub returns-in_err-note-clause-many : goal.returns-in_err-note-clause-many
returns-in_err-note-clause-many g c e =
    let to : step c.args.task.now (members c.args.from.now) c.args.a ≡ Some (members c.in-Some.next) = sym c.advance.ensures ∙ ap (option_map members) c.in-Some.is in
    let full = c.in_err-note.ensures.many (passed_on c.from_residual.result _ _ c.from_residual.ensures.1 e) in
    deepen_many c.args.task.now c.args.limit c.args.head (members c.args.from.now) c.args.a c.args.deeper (visits c.args.layers.now.visited) c.args.layers.now.depths.items c.requires.deepens
    (members c.in-Some.next) to (length-visits c.args.layers.now.visited ∙ full.0) full.1

pub returns-clause-followed : goal.returns-clause-followed
returns-clause-followed g c =
    let to : step c.args.task.now (members c.args.from.now) c.args.a ≡ Some (members c.in-Some.next) = sym c.advance.ensures ∙ ap (option_map members) c.in-Some.is in
    deepen_noted c.args.task.now c.args.limit c.args.head (members c.args.from.now) c.args.a c.args.deeper (visits c.args.layers.now.visited) c.args.layers.now.depths.items c.requires.deepens
    (members c.in-Some.next) to (visits c.note.new.self) c.resize.new.self.items c.in_ok-note.ensures.noted
    (omega (arith, length-visits c.note.new.self, c.in_ok-note.ensures.few))
    (rw (length-visits c.note.new.self, ← c.len.ensures, ← c.args.layers.now.depths.ok.0) c.in_ok-resize.ensures.items)
