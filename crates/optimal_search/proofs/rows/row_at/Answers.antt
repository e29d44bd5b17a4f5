-- The list of the atoms is the one of the state.
use Rattle.std.proofs.Common.{◌≡◌, ◌≤◌, ◌*◌, rules, sym, ◌∙◌}
use mathlib.Core.Path.{subst, ap₂}
use Rattle.grd_base.specs.Bits.{members}
use Rattle.strips_model.specs.Values.{PlainTask, AreAtoms}
use Rattle.strips_model.specs.Plans.{IsOver}
use Rattle.strips_model.specs.StateLists.{atoms_in}
use Rattle.strips_model.proofs.StateListLemmas.{atoms_are}
use Rattle.optimal_search.proofs.rows.row_at.Goals as goal

pub atoms_of-requires : goal.atoms_of-requires
atoms_of-requires g c =
    let same = sym (c.behind-space.view_is ∙ c.task.ensures.same) in
    let atoms = subst (λ (x : PlainTask). x.atoms ≤ 64 * g.row.W) same c.task.ensures.atoms in
    let over = subst (λ (x : PlainTask). IsOver x (members c.args.s.now)) same c.requires.over in
    (search rules, (c.task.ensures.width, (atoms, over)))

pub returns : goal.returns
returns g c =
    let t = c.args.space.now.task in
    let s = members c.args.s.now in
    let list = c.in_ok-state.state.items in
    let are : AreAtoms t.atoms list = subst (λ (x : PlainTask). AreAtoms x.atoms list) (c.behind-space.view_is ∙ c.task.ensures.same) c.in_ok-state.ensures.atoms in
    let state : list ≡ atoms_in t s = atoms_are s t.atoms list c.requires.over are c.in_ok-state.ensures.same in
    ap₂ (λ xs y. record { state = xs; bound = c.args.bound; why = y }) state c.in_ok-why.ensures
