use Rattle.std.proofs.Common.{Ok, refl, ap}
use Rattle.pddl_reader.specs.Forms.{form_at}
use Rattle.pddl_reader.specs.Reading.{and_then}
use Rattle.pddl_reader.specs.Sections.{HasPrecondition, HasEffect}
use Rattle.pddl_reader.proofs.PartLemmas.{adds_parameters, adds_pre, adds_effect}
use Rattle.pddl_reader.proofs.actions.Parts.read_part.Goals as goal

pub returns-in_ok-self-in-Parameters-clause-read :
    goal.returns-in_ok-self-in-Parameters-clause-read
returns-in_ok-self-in-Parameters-clause-read c =
    let v = c.in_ok-self-in-Parameters.field-0.items in
    let is = c.in-Parameters.is in
    let fresh = rw is at c.requires.fresh in
    let pushed = rw is at c.in_ok-push.ensures.items in
    rw is (adds_parameters c.args.self.now _ (form_at c.args.text.now c.args.item.now) v fresh c.in_ok-self-in-Parameters.ensures.read pushed refl refl refl)

pub returns-in_ok-self-in-Precondition-clause-read :
    goal.returns-in_ok-self-in-Precondition-clause-read
returns-in_ok-self-in-Precondition-clause-read c =
    let v = c.in_ok-self-in-Precondition.field-0.items in
    let is = c.in-Precondition.is in
    let fresh = rw is at c.requires.fresh in
    let pushed = rw is at c.in_ok-push.ensures.items in
    rw is (adds_pre c.args.self.now _ (form_at c.args.text.now c.args.item.now) v fresh (ap (λ r. and_then r (λ ls. Ok (HasPrecondition ls))) c.in_ok-self-in-Precondition.ensures.read) pushed refl refl refl)

pub returns-in_ok-self-in-Effect-clause-read : goal.returns-in_ok-self-in-Effect-clause-read
returns-in_ok-self-in-Effect-clause-read c =
    let v = c.in_ok-self-in-Effect.field-0.items in
    let is = c.in-Effect.is in
    let fresh = rw is at c.requires.fresh in
    let pushed = rw is at c.in_ok-push.ensures.items in
    rw is (adds_effect c.args.self.now _ (form_at c.args.text.now c.args.item.now) v fresh (ap (λ r. and_then r (λ ls. Ok (HasEffect ls))) c.in_ok-self-in-Effect.ensures.read) pushed refl refl refl)
