use Rattle.std.proofs.Common.{List, ◌≡◌, ◌+◌, ◌-◌, ◌<◌, true, false, length, arith, sym, ap, ◌∙◌, subst, Some}
use Rattle.std.proofs.lemmas.Option.{slice_get-get_or}
use Rattle.std.specs.Prelude.{slice_get}
use Rattle.ground_all.specs.Grounding.{fluent_atoms, task_atoms, PlainGrounded}
use Rattle.grd_base.specs.declared.ids.AtomId.{AtomId}
use Rattle.ground_all.specs.Sound.{IsSound}
use Rattle.ground_all.proofs.SoundLaws.{sound}
use Rattle.ground_all.specs.Found.{watched_numbers, IsBaseOf}
use Rattle.ground_all.proofs.WatchedLaws.{length-kept, fluent_base, complement_base}
use Rattle.ground_all.proofs.grounded.Grounded.base_of.Goals as goal

pub index-requires : goal.index-requires
index-requires c =
    let own = c.self.inside in
    let same = ap (λ (g : PlainGrounded). g.typed) c.self.view_is in
    omega (arith, c.requires, ap (λ t. length (task_atoms t)) same, length-kept own.typed.now own.fluents own.watched.items c.self.invariant.counted c.self.invariant.listed, own.watched.ok.0, c.if-a-self.false)

pub returns-then-a-self-clause-base : goal.returns-then-a-self-clause-base
returns-then-a-self-clause-base c =
    let same = ap (λ (g : PlainGrounded). g.typed) c.self.view_is in
    subst (λ t. IsBaseOf t c.args.a.0 c.args.a false) same (fluent_base c.self.inside.typed.now c.args.a (omega (arith, c.if-a-self.true, c.self.invariant.counted)))

pub returns-then-a-self-clause-sound : goal.returns-then-a-self-clause-sound
returns-then-a-self-clause-sound c = subst IsSound (ap (λ (g : PlainGrounded). g.typed) c.self.view_is) (sound c.self.inside.typed.now c.self.invariant.typed)

pub returns-else-a-self-clause-base : goal.returns-else-a-self-clause-base
returns-else-a-self-clause-base c =
    let own = c.self.inside in
    let same = ap (λ (g : PlainGrounded). g.typed) c.self.view_is in
    let k = c.args.a.0 - own.fluents in
    let within : k < length own.watched.items =
    omega (arith, c.requires, ap (λ t. length (task_atoms t)) same, length-kept own.typed.now own.fluents own.watched.items c.self.invariant.counted c.self.invariant.listed, c.if-a-self.false) in
    let there : slice_get (watched_numbers own.typed.now) k ≡ Some c.index.result.now =
    ap (λ (ns : List AtomId). slice_get ns k) (sym c.self.invariant.listed) ∙ slice_get-get_or own.watched.items k c.index.result.now within ∙ ap (λ (a : AtomId). Some a) (sym c.index.ensures) in
    let number : length (fluent_atoms own.typed.now) + k ≡ c.args.a.0 = omega (arith, c.self.invariant.counted, c.if-a-self.false) in
    subst (λ t. IsBaseOf t c.args.a.0 c.index.result.now true) same
    (subst (λ n. IsBaseOf own.typed.now n c.index.result.now true) number (complement_base own.typed.now k c.index.result.now there))

pub returns-else-a-self-clause-sound : goal.returns-else-a-self-clause-sound
returns-else-a-self-clause-sound c = subst IsSound (ap (λ (g : PlainGrounded). g.typed) c.self.view_is) (sound c.self.inside.typed.now c.self.invariant.typed)
