use Rattle.std.proofs.Common.{◌≡◌, ◌≤◌, ◌++◌, filter, sym, ◌∙◌, ap, subst, arith}
use Rattle.std.proofs.lemmas.List.Filters.{dedup_is}
use Rattle.grd_base.specs.Bits.{members}
use Rattle.grd_base.proofs.RisingLemmas.{same_id}
use Rattle.strips_model.specs.Values.{PlainTask, IsTask}
use Rattle.succ_table.specs.Applicable.{applicable_of, is_open}
use Rattle.succ_table.proofs.TableLemmas.{gathered_first, gathered_more, gathered_past, gathered_all, applicable_found}
use Rattle.succ_table.proofs.table.SuccTable.applicable.Goals as goal
use Rattle.succ_table.proofs.table.SuccTable.applicable.Goals.{then-contains+in_ok-add_open-2, else-contains}

pub loop-n-init : goal.loop-n-init
loop-n-init g c =
    gathered_first _ _ _ _ _
    (c.in_ok-add_open.ensures ∙ ap (λ xs. xs ++ filter (is_open c.self.inside.task.now c.args.removed.now (members c.args.s.now)) c.as_slice.result.now) c.new-found.ensures.items
    ∙ ap (filter (is_open c.self.inside.task.now c.args.removed.now (members c.args.s.now))) c.as_slice.ensures.value)

pub loop-n-preserved : goal.loop-n-preserved
loop-n-preserved g c = elim c.if-contains.branch [
  | then-contains+in_ok-add_open-2 w ↦
      rw w.found-is
      (gathered_more _ _ _ _ _ _ _ c.loop-n.invariant
      (w.in_ok-add_open-2.ensures ∙ ap (λ xs. c.loop-n.found.items ++ filter (is_open c.self.inside.task.now c.args.removed.now (members c.args.s.now)) xs) w.at.ensures))
  | else-contains w ↦ rw w.found-is (gathered_past _ _ _ _ _ _ c.loop-n.invariant (sym c.contains.ensures ∙ w.if-contains.false))
]

pub returns : goal.returns
returns g c =
    let t : PlainTask = c.self.inside.task.now in
    let is : IsTask t = subst IsTask c.task.view_is c.task.invariant in
    let atoms : c.task.inside.atoms ≡ t.atoms = ap (λ (x : PlainTask). x.atoms) c.task.view_is in
    let past : t.atoms ≤ c.loop-n.n = omega arith in
    dedup_is same_id c.sort.new.self.items c.dedup.new.self.items c.dedup.ensures.filtered
    ∙ applicable_found t c.args.removed.now (members c.args.s.now) c.loop-n.found.items c.sort.new.self.items
    (gathered_all _ _ _ _ _ _ _ is c.self.invariant past c.loop-n.invariant) c.in_ok-sort.ensures.permutation c.in_ok-sort.ensures.sorted
    ∙ ap (λ (x : PlainTask). applicable_of x c.args.removed.now (members c.args.s.now)) c.self.view_is
