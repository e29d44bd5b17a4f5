use Rattle.std.proofs.Common.{◌≡◌, ◌||◌, ◌==◌, false, Contains, length, sym, ◌∙◌}
use Rattle.std.specs.Prelude.{Any}
use Rattle.std.proofs.lemmas.Bool.{false≢true}
use Rattle.grd_base.specs.Bits.{members}
use Rattle.grd_base.specs.Sets.{IsSubset}
use Rattle.strips_model.specs.Plans.{set_of, goal_holds}
use Rattle.cost_certificate.specs.Seen.{IsCutList}
use Rattle.cost_certificate.proofs.CutLemmas.{AreGathered}
use Rattle.cost_certificate.proofs.FamilyLemmas.{sets_meet, sets_apart, seen_more, family_more}
use Rattle.cost_certificate.proofs.soundness.fault_of_set.Goals as goal

pub returns-then-has_some-clause-fails : goal.returns-then-has_some-clause-fails
returns-then-has_some-clause-fails g c =
    let t = c.args.moves.now.task in
    let removed = c.args.moves.now.removed in
    let u = c.args.set.now in
    let contains : IsSubset (members c.args.s.now) (set_of u) = rw c.state_of-u.ensures at (c.is_subset.ensures.0 c.if-not-is_subset.false) in
    let open_goal : goal_holds t c.args.goal (set_of u) ≡ false = rw (c.task.ensures, c.state_of-u.ensures) at (sym c.holds.ensures ∙ c.if-holds.false) in
    let list : IsCutList t removed (set_of u) c.in_ok-actions.actions.items = rw c.state_of-u.ensures at c.in_ok-actions.ensures in
    let any : Any (λ a. Contains c.args.seen.now.actions.keys a) c.in_ok-actions.actions.items = rw c.deref.ensures.value at (c.has_some.ensures.0 c.if-has_some.true) in
    λ before seen. (contains, open_goal, sets_meet t removed before u c.in_ok-actions.actions.items c.args.seen.now seen list any)

pub returns-clause-joins : goal.returns-clause-joins
returns-clause-joins g c =
    let t = c.args.moves.now.task in
    let removed = c.args.moves.now.removed in
    let u = c.args.set.now in
    let contains : IsSubset (members c.args.s.now) (set_of u) = rw c.state_of-u.ensures at (c.is_subset.ensures.0 c.if-not-is_subset.false) in
    let open_goal : goal_holds t c.args.goal (set_of u) ≡ false = rw (c.task.ensures, c.state_of-u.ensures) at (sym c.holds.ensures ∙ c.if-holds.false) in
    let list : IsCutList t removed (set_of u) c.in_ok-actions.actions.items = rw c.state_of-u.ensures at c.in_ok-actions.ensures in
    let none : Any (λ a. Contains c.args.seen.now.actions.keys a) c.in_ok-actions.actions.items → ⊥ =
    λ any. false≢true (sym c.if-has_some.false ∙ c.has_some.ensures.1 (rw c.deref.ensures.value any)) in
    let keys : AreGathered c.args.seen.now.actions.keys c.in_ok-actions.actions.items c.add.new.self.actions.keys = rw c.deref-2.ensures.value at c.in_ok-add.ensures.actions in
    let flag : c.add.new.self.has_empty ≡ (c.args.seen.now.has_empty || (length c.in_ok-actions.actions.items == 0)) = rw c.deref-2.ensures.value at c.in_ok-add.ensures.empty in
    λ before seen family. (
      family_more t removed c.args.goal (members c.args.s.now) before u family contains open_goal (sets_apart t removed before u c.in_ok-actions.actions.items c.args.seen.now seen list none),
      seen_more t removed before u c.in_ok-actions.actions.items c.args.seen.now seen list c.add.new.self keys flag,
    )
