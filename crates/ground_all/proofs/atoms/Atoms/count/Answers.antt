use Rattle.std.proofs.Common.{length, ap, ◌∙◌, arith}
use Rattle.ground_all.specs.Grounding.{task_atoms}
use Rattle.ground_all.proofs.WatchedLaws.{length-kept}
use Rattle.ground_all.proofs.atoms.Atoms.count.Goals as goal

pub overflow_cast-result : goal.overflow_cast-result
overflow_cast-result c =
    let self = c.self.inside in
    omega (arith, c.len.ensures, self.watched.ok.0, length-kept self.typed.now self.fluents self.watched.items c.self.invariant.counted c.self.invariant.listed, c.self.invariant.indexed.few)

pub overflow_add-result : goal.overflow_add-result
overflow_add-result c =
    let self = c.self.inside in
    omega (arith, c.len.ensures, self.watched.ok.0, length-kept self.typed.now self.fluents self.watched.items c.self.invariant.counted c.self.invariant.listed, c.self.invariant.indexed.few)

pub returns : goal.returns
returns c =
    let self = c.self.inside in
    omega (arith, c.len.ensures, self.watched.ok.0, length-kept self.typed.now self.fluents self.watched.items c.self.invariant.counted c.self.invariant.listed)
    ∙ ap (λ t. length (task_atoms t)) c.self.view_is
