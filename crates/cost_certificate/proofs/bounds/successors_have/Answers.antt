use Rattle.std.proofs.Common.{List, get_or, take, rules, refl, sym, ◌∙◌, subst}
use Rattle.std.specs.Prelude.{All, Contains}
use Rattle.std.proofs.lemmas.Bool.{false≢true}
use Rattle.std.proofs.lemmas.List.{take_all, take_more}
use Rattle.std.proofs.lemmas.List.Elements.{All-nil, All-push, Contains-get_or}
use Rattle.grd_base.specs.declared.ids.ActionId.{ActionId}
use Rattle.grd_base.specs.Bits.{members}
use Rattle.cost_certificate.proofs.BoundLemmas.{HasNext, all_next}
use Rattle.cost_certificate.proofs.bounds.successors_have.Goals as goal

pub loop-a-init : goal.loop-a-init
loop-a-init g c rows best = All-nil (HasNext c.args.moves.now.task c.args.moves.now.removed rows (members c.args.s.now) c.args.need)

pub successor_has-requires : goal.successor_has-requires
successor_has-requires g c = (
  search rules,
  (
    c.requires.width,
    (
      c.requires.atoms,
      subst (λ (xs : List ActionId). Contains xs (get_or c.allowed-allowed.result.now c.loop-a.a-index (record { 0 = 0 }))) c.allowed-allowed.ensures
          (Contains-get_or c.allowed-allowed.result.now c.loop-a.a-index (record { 0 = 0 }) c.loop-a-test.true),
    ),
  ),
)

pub returns-then-not-successor_has : goal.returns-then-not-successor_has
returns-then-not-successor_has g c rows best =
    (λ never. absurd (false≢true never), λ all. sym c.if-not-successor_has.true ∙ (c.successor_has.ensures rows best).1 (all _))

pub loop-a-preserved : goal.loop-a-preserved
loop-a-preserved g c rows best =
    let Has : ActionId → Type 0 = HasNext c.args.moves.now.task c.args.moves.now.removed rows (members c.args.s.now) c.args.need in
    let a : ActionId = get_or c.allowed-allowed.result.now c.loop-a.a-index (record { 0 = 0 }) in
    subst (All Has) (sym (take_more c.allowed-allowed.result.now c.loop-a.a-index (record { 0 = 0 }) c.loop-a-test.true))
    (All-push Has (take c.loop-a.a-index c.allowed-allowed.result.now) a (c.loop-a.invariant rows best) ((c.successor_has.ensures rows best).0 c.if-not-successor_has.false))

pub returns : goal.returns
returns g c rows best =
    let Has : ActionId → Type 0 = HasNext c.args.moves.now.task c.args.moves.now.removed rows (members c.args.s.now) c.args.need in (
      λ always. all_next c.args.moves.now.task c.args.moves.now.removed rows c.args.need (members c.args.s.now)
          (subst (All Has) (take_all c.loop-a.a-index c.allowed-allowed.result.now c.loop-a-test.false ∙ c.allowed-allowed.ensures) (c.loop-a.invariant rows best)),
      λ all. refl,
    )
