use Rattle.std.proofs.Common.{◌<◌, sym, ◌∙◌}
use Rattle.std.proofs.lemmas.List.Elements.{All-push}
use Rattle.grd_base.specs.Bits.{members}
use Rattle.strips_model.proofs.ListLemmas.{told_member, told_other}
use Rattle.strips_model.proofs.lists.atoms_of.Goals as goal
use Rattle.strips_model.proofs.lists.atoms_of.Goals.{then-contains+in_ok-push, else-contains}

pub loop-n-preserved : goal.loop-n-preserved
loop-n-preserved g c =
    elim c.if-contains.branch [
      | then-contains+in_ok-push w ↦
          rw (w.atoms-is, w.in_ok-push.ensures.items) (record {
            told = told_member (members c.args.s.now) c.loop-n.n c.loop-n.atoms.items c.loop-n.invariant.told (sym c.contains.ensures ∙ w.if-contains.true);
            below = All-push (λ a. a.0 < c.args.count) c.loop-n.atoms.items (record { 0 = c.loop-n.n }) c.loop-n.invariant.below c.loop-n-test.true;
          })
      | else-contains w ↦
          rw w.atoms-is (record {
            told = told_other (members c.args.s.now) c.loop-n.n c.loop-n.atoms.items c.loop-n.invariant.told (sym c.contains.ensures ∙ w.if-contains.false);
            below = c.loop-n.invariant.below;
          })
    ]
