use Rattle.std.proofs.Common.{◌∙◌, arith}
use Rattle.level_bounds.proofs.FilingLemmas.{listed_more, listed_all}
use Rattle.level_bounds.proofs.wave.file.Goals as goal

pub loop-p-preserved : goal.loop-p-preserved
loop-p-preserved c = record {
  count = c.add.ensures.count ∙ c.loop-p.invariant.count;
  filed = listed_more c.args.needed_by.now c.loop-p.needed_by c.add.new.self c.args.a c.args.atoms.now c.loop-p.p-index (record { 0 = 0 }) (omega arith)
      c.in_ok-add.ensures.last c.in_ok-add.ensures.others c.loop-p.invariant.filed;
}

pub returns-clause-filed : goal.returns-clause-filed
returns-clause-filed c = listed_all c.args.needed_by.now c.loop-p.needed_by c.args.a c.args.atoms.now c.loop-p.p-index (omega arith) c.loop-p.invariant.filed
