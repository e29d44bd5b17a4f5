use Rattle.std.proofs.Common.{◌≡◌, take}
use Rattle.cost_certificate.proofs.CutLemmas.{AreGathered}
use Rattle.cost_certificate.proofs.cuts.Seen.add.Given as goal

abbrev pub invariant-loop-a : goal.invariant-loop-a
invariant-loop-a l = record {
  actions : AreGathered l.fn.self.actions.keys (take l.a-index l.actions) l.self.actions.keys;
  empty : l.self.has_empty ≡ l.fn.self.has_empty;
}
