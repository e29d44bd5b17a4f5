use Rattle.std.proofs.Common.{◌≢◌, length, sym, ap, ◌∙◌, arith}
use Rattle.type_check.specs.Values.{PlainTyped, PlainGroundAtom}
use Rattle.ground_all.proofs.AtomKeys.{untyped_stands, mark_within, start_within, true_stands, false_stands, fluent_stands, number_short}
use Rattle.ground_all.proofs.atoms.Atoms.find_declared.Goals as goal

pub returns-in_default : goal.returns-in_default
returns-in_default c =
    let self = c.self.inside in
    let other : c.args.atom.now.predicate ≢ length self.typed.now.predicates = λ e. c.requires (e ∙ ap (λ (t : PlainTyped). length t.predicates) c.self.view_is) in
    rw (← c.self.view_is) (untyped_stands self.typed.now self.fluent.items self.starts.items self.initial.keys c.self.invariant.indexed c.args.atom.now other c.in_default.ensures)

pub index-requires : goal.index-requires
index-requires c =
    let self = c.self.inside in
    let here = ap (λ (a : PlainGroundAtom). a.predicate) c.atom.view_is in
    omega (arith, mark_within self.typed.now self.fluent.items self.starts.items self.initial.keys c.self.invariant.indexed c.args.atom.now c.in-Some.key c.in-Some.ensures c.atom.inside.predicate here, self.fluent.ok.0)

pub index-requires-then-index : goal.index-requires-then-index
index-requires-then-index c =
    let self = c.self.inside in
    let here = ap (λ (a : PlainGroundAtom). a.predicate) c.atom.view_is in
    omega (arith, start_within self.typed.now self.fluent.items self.starts.items self.initial.keys c.self.invariant.indexed c.args.atom.now c.in-Some.key c.in-Some.ensures c.atom.inside.predicate here, self.starts.ok.0)

pub overflow_cast-result : goal.overflow_cast-result
overflow_cast-result c =
    let self = c.self.inside in
    let here = ap (λ (a : PlainGroundAtom). a.predicate) c.atom.view_is in
    omega
    (arith, number_short self.typed.now self.fluent.items self.starts.items self.initial.keys c.self.invariant.indexed c.args.atom.now c.in-Some.key c.in-Some.ensures c.atom.inside.predicate here c.index.result.now c.index.ensures c.index-then-index.result.now c.index-then-index.ensures c.if-index.true)

pub overflow_add-result : goal.overflow_add-result
overflow_add-result c =
    let self = c.self.inside in
    let here = ap (λ (a : PlainGroundAtom). a.predicate) c.atom.view_is in
    omega
    (arith, number_short self.typed.now self.fluent.items self.starts.items self.initial.keys c.self.invariant.indexed c.args.atom.now c.in-Some.key c.in-Some.ensures c.atom.inside.predicate here c.index.result.now c.index.ensures c.index-then-index.result.now c.index-then-index.ensures c.if-index.true)

pub returns-then-index : goal.returns-then-index
returns-then-index c =
    let self = c.self.inside in
    let here = ap (λ (a : PlainGroundAtom). a.predicate) c.atom.view_is in
    rw (← c.self.view_is)
    (fluent_stands self.typed.now self.fluent.items self.starts.items self.initial.keys c.self.invariant.indexed c.args.atom.now c.in-Some.key c.in-Some.ensures c.atom.inside.predicate here c.index.result.now c.index.ensures
    c.index-then-index.result.now c.index-then-index.ensures c.if-index.true)

pub returns-then-contains : goal.returns-then-contains
returns-then-contains c =
    let self = c.self.inside in
    let here = ap (λ (a : PlainGroundAtom). a.predicate) c.atom.view_is in
    rw (← c.self.view_is)
    (true_stands self.typed.now self.fluent.items self.starts.items self.initial.keys c.self.invariant.indexed c.args.atom.now c.in-Some.key c.in-Some.ensures c.atom.inside.predicate here c.index.result.now c.index.ensures
    c.if-index.false (sym c.contains.ensures ∙ c.if-contains.true))

pub returns-else-contains : goal.returns-else-contains
returns-else-contains c =
    let self = c.self.inside in
    let here = ap (λ (a : PlainGroundAtom). a.predicate) c.atom.view_is in
    rw (← c.self.view_is)
    (false_stands self.typed.now self.fluent.items self.starts.items self.initial.keys c.self.invariant.indexed c.args.atom.now c.in-Some.key c.in-Some.ensures c.atom.inside.predicate here c.index.result.now c.index.ensures
    c.if-index.false (sym c.contains.ensures ∙ c.if-contains.false))
