use Rattle.strips_model.specs.Values.{WorldAction}
use Rattle.ground_all.specs.Found.{start_numbers}
use Rattle.ground_all.proofs.TaskLaws.{task_action_is}
use Rattle.ground_all.proofs.tasks.task_action.Goals as goal

pub returns : goal.returns
returns c =
    let own = c.action.inside in
    let plain : WorldAction = record { pre = own.pre.items; absent = own.absent.items; add = own.add.items; del = own.del.items; blocked = own.blocked } in
    task_action_is (start_numbers c.args.atoms.now) c.args.action plain c.deref.result.now c.deref-4.result.now c.deref-2.result.now c.deref-3.result.now
    c.add_complements.new.into.items c.new-lost.result.items c.add_complements-2.new.into.items c.append.new.self.items c.add_complements-3.new.into.items
    c.action.view_is c.deref.ensures.value c.deref-4.ensures.value c.deref-3.ensures.value c.deref-2.ensures.value c.new-lost.ensures.items
    c.in_ok-add_complements.ensures c.in_ok-add_complements-2.ensures c.in_ok-add_complements-3.ensures c.in_ok-append.ensures.items
