use Rattle.std.proofs.Common.{ℕ, ◌<◌, length}
use Rattle.std.specs.Prelude.{IfSome}
use Rattle.strips_model.specs.Plans.{State}
use Rattle.design_certificate.specs.Index.{IsLast}
use Rattle.design_certificate.proofs.IndexLemmas.{IsSought, height}
use Rattle.design_certificate.proofs.index.chain_has.Given as goal

abbrev pub invariant-loop-next : goal.invariant-loop-next
invariant-loop-next l =
    IfSome l.next (λ i. i < length l.fn.rows) × ((s : State) (d : ℕ) → IsLast l.fn.rows (length l.fn.rows) s d l.fn.last → IsSought l.fn.rows l.fn.wanted s d l.next)

abbrev pub decreases-loop-next : goal.decreases-loop-next
decreases-loop-next l = height l.next
