use Rattle.std.proofs.Common.{refl}
use Rattle.std.proofs.lemmas.Bool.{false≢true}
use Rattle.search_core.proofs.PushLemmas.{progress_cut, progress_kept, crowded_new}
use Rattle.search_core.proofs.visits.admit.Goals as goal

pub returns-then-is_cut-clause-progress : goal.returns-then-is_cut-clause-progress
returns-then-is_cut-clause-progress g c =
    rw (c.in_ok-add.ensures.added, c.add.ensures.kept)
    (progress_cut _ _ _ _ _ _ _ _ _ _ _ _ _ c.requires.progress c.requires.new c.in_ok-bound.ensures (c.if-is_cut.ensures.0 refl))

pub returns-then-progress-question-clause-many : goal.returns-then-progress-question-clause-many
returns-then-progress-question-clause-many g c = λ _.
    crowded_new _ _ _ _ _ _ _ _ _ _ _ c.in_ok-bound.bound c.requires.progress c.requires.new
    (g.met.F.Floor.admissible _ _ _ _ _ c.in_ok-bound.ensures).above_level (λ cut. false≢true (c.if-is_cut.ensures.1 cut)) c.if-progress-question.true

pub returns-clause-progress : goal.returns-clause-progress
returns-clause-progress g c =
    rw (c.in_ok-add-2.ensures.added, c.add-2.ensures.kept)
    (progress_kept _ _ _ _ _ _ _ _ _ _ _ _ c.requires.progress c.requires.new
    (g.met.F.Floor.admissible _ _ _ _ _ c.in_ok-bound.ensures).above_level (λ cut. false≢true (c.if-is_cut.ensures.1 cut)) c.if-progress-question.false)
