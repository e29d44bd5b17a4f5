use Rattle.std.proofs.Common.{map, string_bytes, ap, arith}
use Rattle.goal_files.proofs.Mapped.{element_here}
use Rattle.goal_files.proofs.AtomSets.{no_atoms, goal_more, no_goal}
use Rattle.goal_files.proofs.goals.goal_of.Goals as goal

pub loop-names-init : goal.loop-names-init
loop-names-init c = no_atoms c.args.index.now c.new-goal.result c.new-goal.ensures

pub loop-names-preserved : goal.loop-names-preserved
loop-names-preserved c =
    let spelled = map (λ names. map string_bytes names.items) c.args.atoms.now in
    let atom = map string_bytes c.deref.result.now in
    let is = rw c.in-Some.is at c.in_ok-atom.ensures in
    let here = element_here (λ names. map string_bytes names.items) c.args.atoms.now c.loop-names.names-index c.names-item.result atom (omega arith) c.names-item.is (ap (map string_bytes) c.deref.ensures.value) in
    goal_more c.args.index.now spelled c.loop-names.names-index atom here c.loop-names.goal c.add.new.self c.in-Some.atom c.loop-names.invariant is c.in_ok-add-in-Some.ensures

pub returns-in-None : goal.returns-in-None
returns-in-None c ground_atoms =
    let spelled = map (λ names. map string_bytes names.items) c.args.atoms.now in
    let atom = map string_bytes c.deref.result.now in
    let none = rw c.in-None.is at c.in_ok-atom.ensures in
    let here = element_here (λ names. map string_bytes names.items) c.args.atoms.now c.loop-names.names-index c.names-item.result atom (omega arith) c.names-item.is (ap (map string_bytes) c.deref.ensures.value) in
    no_goal c.args.index.now spelled c.loop-names.names-index atom here ground_atoms none
