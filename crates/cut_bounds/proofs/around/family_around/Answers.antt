use Rattle.std.proofs.Common.{◌+◌, List, [], ◌∷◌, map, take, sym, ◌∙◌, ap, subst, arith, Vec, Global}
use Rattle.std.proofs.lemmas.List.{map-append}
use Rattle.grd_base.specs.declared.ids.AtomId.{AtomId}
use Rattle.grd_base.specs.declared.ids.ActionId.{ActionId}
use Rattle.grd_base.specs.Bits.{members}
use Rattle.cut_bounds.specs.Around.{IsAround}
use Rattle.cut_bounds.proofs.FamilyCuts.{AreAround, around_more, around_all, around_family, around_enough, around_exact, around_atoms}
use Rattle.cut_bounds.proofs.around.family_around.Goals as goal

abbrev items_of : Vec AtomId Global → List AtomId
items_of set = set.items

pub loop-list-preserved : goal.loop-list-preserved
loop-list-preserved g c =
    let t = c.args.task.now in
    let f = c.args.level.now in
    let s = members c.args.s.now in
    let i = c.loop-list.list-index in
    let longer = ap (map items_of) c.in_ok-push.ensures.items ∙ map-append items_of c.loop-list.sets.items (c.in_ok-set.set ∷ []) in
    subst (λ (l : List (List AtomId)). AreAround t f.goal f.removed s (take (i + 1) c.args.lists.now) l) (sym longer)
    (around_more t f.goal f.removed s c.args.lists.now i c.list-item.result c.loop-list-test.true (map items_of c.loop-list.sets.items) c.in_ok-set.set.items c.loop-list.invariant
    (subst (λ (l : List ActionId). IsAround t f.goal f.removed s l c.in_ok-set.set.items) c.list-item.is c.in_ok-set.ensures))

pub returns-clause-family : goal.returns-clause-family
returns-clause-family g c =
    let t = c.args.task.now in
    let f = c.args.level.now in
    let s = members c.args.s.now in
    let sets = map items_of c.loop-list.sets.items in
    around_family t f.goal f.removed s c.args.lists.now sets (around_all t f.goal f.removed s c.args.lists.now c.loop-list.list-index (omega (arith, c.loop-list-test.false)) sets c.loop-list.invariant) c.requires.shows.0 c.requires.shows.1

pub returns-clause-enough : goal.returns-clause-enough
returns-clause-enough g c =
    let t = c.args.task.now in
    let f = c.args.level.now in
    let s = members c.args.s.now in
    let sets = map items_of c.loop-list.sets.items in
    around_enough t f.goal f.removed s c.args.lists.now sets (around_all t f.goal f.removed s c.args.lists.now c.loop-list.list-index (omega (arith, c.loop-list-test.false)) sets c.loop-list.invariant)

pub returns-clause-around : goal.returns-clause-around
returns-clause-around g c =
    let t = c.args.task.now in
    let f = c.args.level.now in
    let s = members c.args.s.now in
    let sets = map items_of c.loop-list.sets.items in
    around_exact t f.goal f.removed s c.args.lists.now sets (around_all t f.goal f.removed s c.args.lists.now c.loop-list.list-index (omega (arith, c.loop-list-test.false)) sets c.loop-list.invariant)

pub returns-clause-atoms : goal.returns-clause-atoms
returns-clause-atoms g c =
    let t = c.args.task.now in
    let f = c.args.level.now in
    let s = members c.args.s.now in
    let sets = map items_of c.loop-list.sets.items in
    around_atoms t f.goal f.removed s c.args.lists.now sets (around_all t f.goal f.removed s c.args.lists.now c.loop-list.list-index (omega (arith, c.loop-list-test.false)) sets c.loop-list.invariant)
