use Rattle.std.proofs.Common.{arith}
use Rattle.cost_certificate.proofs.CutLemmas.{gathered_more, gathered_all}
use Rattle.cost_certificate.proofs.cuts.Seen.add.Goals as goal

pub loop-a-preserved : goal.loop-a-preserved
loop-a-preserved c = record {
  actions = gathered_more c.args.self.now.actions.keys c.args.actions.now c.loop-a.self.actions.keys c.insert.new.self.keys c.loop-a.a-index (record { 0 = 0 }) (omega arith) c.in_ok-insert.ensures.keys c.loop-a.invariant.actions;
  empty = c.loop-a.invariant.empty;
}

pub returns-then-is_empty-clause-actions : goal.returns-then-is_empty-clause-actions
returns-then-is_empty-clause-actions c = gathered_all c.args.self.now.actions.keys c.args.actions.now c.loop-a.self.actions.keys c.loop-a.a-index (omega arith) c.loop-a.invariant.actions

pub returns-else-is_empty-clause-actions : goal.returns-else-is_empty-clause-actions
returns-else-is_empty-clause-actions c = gathered_all c.args.self.now.actions.keys c.args.actions.now c.loop-a.self.actions.keys c.loop-a.a-index (omega arith) c.loop-a.invariant.actions
