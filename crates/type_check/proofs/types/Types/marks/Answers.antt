use Rattle.std.proofs.Common.{◌≡◌, ◌∙◌, ◌+◌, ◌++◌, ◌∷◌, [], set, take, true, sym, ap, subst, Contains, arith, rules}
use Rattle.std.proofs.lemmas.List.{take_more, take_all}
use Rattle.pddl_reader.specs.Forms.{Word}
use Rattle.type_check.specs.Types.{type_names, place_in}
use Rattle.type_check.specs.Chains.{AreMarks}
use Rattle.type_check.proofs.TypeLaws.{number_within}
use Rattle.type_check.proofs.MarkLaws.{mark_more, mark_none}
use Rattle.type_check.proofs.types.Types.marks.Goals as goal

pub loop-name-preserved-in_default : goal.loop-name-preserved-in_default
loop-name-preserved-in_default c =
    let d = c.args.self.now in
    let words = c.args.names.now in
    let i = c.loop-name.name-index in
    let w = c.name-item.result in
    let text : c.as_str.result.now ≡ w.text = search rules in
    let more : take (i + 1) words ≡ take i words ++ w ∷ [] = take_more words i w c.loop-name-test.true ∙ ap (λ (v : Word). take i words ++ v ∷ []) (sym c.name-item.is) in
    subst (λ ws. AreMarks d ws c.loop-name.marks.items) (sym more)
    (mark_none d (take i words) w c.loop-name.marks.items c.loop-name.invariant (λ known. c.in_default.ensures.none (subst (Contains (type_names d)) (sym text) known)))

pub index_mut-requires : goal.index_mut-requires
index_mut-requires c =
    omega (arith, c.in-Some.ensures.number, c.loop-name.invariant.each, number_within c.args.self.now c.as_str.result.now c.in-Some.ensures.found)

pub loop-name-preserved : goal.loop-name-preserved
loop-name-preserved c =
    let d = c.args.self.now in
    let words = c.args.names.now in
    let i = c.loop-name.name-index in
    let w = c.name-item.result in
    let text : c.as_str.result.now ≡ w.text = search rules in
    let more : take (i + 1) words ≡ take i words ++ w ∷ [] = take_more words i w c.loop-name-test.true ∙ ap (λ (v : Word). take i words ++ v ∷ []) (sym c.name-item.is) in
    subst (λ ws. AreMarks d ws (set c.loop-name.marks.items c.in-Some.number true)) (sym more)
    (mark_more d (take i words) w c.loop-name.marks.items c.in-Some.number c.loop-name.invariant (subst (Contains (type_names d)) text c.in-Some.ensures.found)
    (c.in-Some.ensures.number ∙ ap (place_in (type_names d)) text))

pub returns : goal.returns
returns c =
    subst (λ ws. AreMarks c.args.self.now ws c.loop-name.marks.items) (take_all c.loop-name.name-index c.args.names.now c.loop-name-test.false) c.loop-name.invariant
