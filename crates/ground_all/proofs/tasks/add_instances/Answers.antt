use Rattle.std.proofs.Common.{◌≡◌, length, map, drop, sym, ◌∙◌, ap, arith, slice_get}
use Rattle.std.proofs.lemmas.List.{take_at}
use Rattle.ground_all.specs.Tuples.{tuples}
use Rattle.ground_all.specs.Found.{schema_action}
use Rattle.ground_all.proofs.TaskLaws.{behind_next}
use Rattle.ground_all.proofs.tasks.add_instances.Goals as goal

pub loop-number-preserved : goal.loop-number-preserved
loop-number-preserved c =
    let schema = c.args.schema.now in
    let act = schema_action c.args.atoms.now schema in
    let front = c.args.actions.now.items in
    let number = c.loop-number.number in
    let old = c.loop-number.objects in
    let filled = c.fill.new.objects in
    let room : length filled ≡ old.len = omega (arith, old.ok.0) in
    let whole = take_at filled (drop (length filled) old.items) old.len room in
    let places = ap (map (λ place. place.items)) c.deref-in-loop-number.ensures.value ∙ ap (λ s. s.places) c.schema.view_is in
    let there = ap (λ ps. slice_get (tuples ps) number) (sym places) ∙ c.fill.ensures in
    record {
      room = ap length whole ∙ omega (arith, c.loop-number.invariant.room, old.ok.0);
      made = behind_next act (tuples schema.places) number filled front c.loop-number.actions.items c.push.new.self.items c.in_ok-action.field-0
          there c.loop-number.invariant.made (c.in_ok-action.ensures ∙ ap act (c.deref-in-loop-number-2.ensures.value ∙ whole)) c.in_ok-push.ensures.items;
    }
